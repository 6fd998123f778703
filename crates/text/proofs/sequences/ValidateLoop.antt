-- The loop of `validate`, look by look.
--     valid-on, valid-one      a sequence is passed; an octet of ASCII is passed
--     valid-run, valid-stop    a run of ASCII is passed; the walk ends at any other octet
--     valid-all                a text that is ASCII is valid
-- Assumes nothing.
use Rattle.std.specs.Prelude.{Result, Ok, Err, ⊤}
use Rattle.text.specs.declared.utf8.IllFormed.{IllFormed}
use mathlib.Core.Path.{◌≡◌, refl, sym, ap, ◌∙◌}
use mathlib.Core.List.{List}
use Prim.Native.Nat.{ℕ, zero, suc, ◌+◌, ◌-◌, ◌<◌, ◌≤◌}
use native.Mathlib.Omega.{arith}
use native.Mathlib.Nat.{add-zero, add-suc}
use native.Mathlib.Numerals.{add-one}
use lib.ListN.{length, get_or, drop}
use borrow.Author.Tests.{eq-eqb, ne_eqb}
use Rattle.text.specs.Walk.{walk}
use Rattle.text.specs.Utf8.{width, look_valid, validity_of}
use Rattle.text.specs.Block.{others, Clear}
use Rattle.text.proofs.sequences.Walk.{walk-pass, walk-answer, walk_end}
use Rattle.text.proofs.scanning.Blocks.{none-ascii}
use Rattle.text.proofs.sequences.FirstOctet.{width-ascii}

module _ (e : ℕ → Result ⊤ IllFormed) (s : List ℕ) where
  pub valid-on : (i w : ℕ) → w ≡ width (drop i s) → (w ≡ 0 → ⊥) → i + w ≤ length s → walk look_valid e s i ≡ walk look_valid e s (i + w)
  unfolding look_valid
  valid-on i w q z h =
      walk-pass look_valid e s i (w - 1) (i + w) (rw (sym q, ne_eqb w 0 z)) (below w z) h
    where
      below : (w : ℕ) → (w ≡ 0 → ⊥) → i + suc (w - 1) ≡ i + w
      below zero z = absurd (z refl)
      below (suc w) z = omega arith

  pub valid-stop : (i w : ℕ) → w ≡ width (drop i s) → w ≡ 0 → i < length s → walk look_valid e s i ≡ Err (record { at = i })
  unfolding look_valid
  valid-stop i w q z h = walk-answer look_valid e s i (Err (record { at = i })) h (rw (sym q, eq-eqb w 0 z))

  pub valid-one : (i : ℕ) → i < length s → get_or s i 0 < 0x80 → walk look_valid e s i ≡ walk look_valid e s (i + 1)
  valid-one i h a = valid-on i 1 (sym (width-ascii s i h (omega arith) a)) (λ z. omega arith) (omega arith)

  ascii-on : (i n : ℕ) → i + n ≤ length s → ((k : ℕ) → i ≤ k → k < i + n → get_or s k 0 < 0x80) → walk look_valid e s i ≡ walk look_valid e s (i + n)
  ascii-on i zero h a = ap (λ (n : ℕ). walk look_valid e s n) (sym (add-zero i))
  ascii-on i (suc n) h a =
      ascii-on i n (omega arith) (λ k p q. a k p (omega arith)) ∙ valid-one (i + n) (omega arith) (a (i + n) (omega arith) (omega arith))
      ∙ ap (λ (m : ℕ). walk look_valid e s m) (add-one (i + n) ∙ sym (add-suc i n))

  -- a run of ASCII is passed
  pub valid-run : (i : ℕ) {r : ℕ} → i ≤ length s → Clear others s i r → walk look_valid e s i ≡ walk look_valid e s r
  valid-run i {r} h x =
      let q : i + (r - i) ≡ r = omega (arith, x.from) in
      ascii-on i (r - i) (omega (arith, x.from, x.to)) (λ k p l. let b = x.clear k p (omega arith) in none-ascii (get_or s k 0) b.0 b.1)
      ∙ ap (λ (m : ℕ). walk look_valid e s m) q

pub valid-all : (s : List ℕ) → Clear others s 0 (length s) → validity_of s ≡ Ok tt
unfolding validity_of
valid-all s x = valid-run (λ n. (Ok tt)) s 0 (omega arith) x ∙ walk_end look_valid (λ n. (Ok tt)) s (length s) (omega arith)

-- the walk passes ASCII at the beginning
pub valid-to : (s : List ℕ) (r : ℕ) → r ≤ length s → ((k : ℕ) → k < r → get_or s k 0 < 0x80) → validity_of s ≡ walk look_valid (λ n. Ok tt) s r
unfolding validity_of
valid-to s r h a = ascii-on (λ n. Ok tt) s 0 r (omega arith) (λ k p q. a k (omega arith)) ∙ ap (λ (m : ℕ). walk look_valid (λ n. Ok tt) s m) (omega arith)
