-- The loops of `in_braces` and `quoted` over blocks of bytes.
--     pass-clear                  a loop passes a stretch without a byte that it looks for
--     braces-clear, quoted-clear  the two loops pass such a stretch
--     braces-far, quoted-far      they pass a backslash and the byte after it
--     braces-eof                  a backslash at the end of the text is refused
--     quoted-rest                 what the loop over blocks leaves to the loop over bytes
-- Assumes nothing.
use Rattle.std.proofs.Common.{Result, Ok, Err, ℕ, zero, suc, ◌+◌, ◌-◌, ◌≤◌, ◌<◌, max, arith, add-zero, add-suc, add-one, ◌≡◌, refl, sym, ap, ◌∙◌, subst, false, List, length}
use Rattle.std.proofs.Common.{get_or}
use Rattle.row.specs.declared.fault.Fault.{Fault}
use Rattle.text.specs.declared.block.Set.{Set}
use Rattle.text.specs.Block.{in_set, braces, quotes, Clear}
use Rattle.text.proofs.general.Tests.{told-apart}
use Rattle.row.specs.declared.fault.Reason.TheVariants.{UnexpectedEof}
use Rattle.row.specs.Fault.{fault_at}
use Rattle.raw.specs.Reader.{Reader}
use Rattle.raw.specs.Says.{step_of, Onward}
use Rattle.raw.specs.Grammar.{quoted_turn, quoted, braced_turn, in_braces}
use Rattle.raw.proofs.ways.ByteLoops.{Reached}
use Rattle.raw.proofs.ways.ByteTurns.{quoted-plain, quoted-escape, braces-plain, braces-escape, braces-cut, braces-end}

-- where the loop of the turns t has reached k, and the byte there is not in the set, it reaches k + 1
abbrev PassesOutside : (ℕ → Reader) → Set → List ℕ → ℕ → ℕ → Type 0
PassesOutside t x s at d = (k : ℕ) → Reached t s at d k → k < length s → in_set x (get_or s k 0) ≡ false → Reached t s at d (k + 1)

pass-bytes : (t : ℕ → Reader) (x : Set) (s : List ℕ) (at d : ℕ) → PassesOutside t x s at d → (i n : ℕ) → i + n ≤ length s →
    ((k : ℕ) → i ≤ k → k < i + n → in_set x (get_or s k 0) ≡ false) → Reached t s at d i → Reached t s at d (i + n)
pass-bytes t x s at d one i zero h c r = subst (Reached t s at d) (sym (add-zero i)) r
pass-bytes t x s at d one i (suc n) h c r =
    let o = pass-bytes t x s at d one i n (omega arith) (λ k p q. c k p (omega arith)) r in
    subst (Reached t s at d) (add-one (i + n) ∙ sym (add-suc i n)) (one (i + n) o (omega arith) (c (i + n) (omega arith) (omega arith)))

pass-clear : (t : ℕ → Reader) (x : Set) (s : List ℕ) (at d : ℕ) → PassesOutside t x s at d → {i j : ℕ} → i ≤ length s → Clear x s i j → Reached t s at d i →
    Reached t s at d j
pass-clear t x s at d one {i} {j} h c r =
    let e : i + (j - i) ≡ j = omega (arith, c.from) in
    subst (Reached t s at d) e (pass-bytes t x s at d one i (j - i) (omega (arith, c.from, c.to)) (λ k p q. (c.clear k p (omega arith)).1) r)

module _ {s : List ℕ} {at d : ℕ} where
  braces-pass : PassesOutside braced_turn braces s at d
  unfolding in_set
  braces-pass k r h f =
      braces-plain r h (told-apart (in_set braces) 0x7B refl f) (told-apart (in_set braces) 0x7D refl f)
      (told-apart (in_set braces) 0x5C refl f)

  pub braces-clear : {i j : ℕ} → Reached braced_turn s at d i → i ≤ length s → Clear braces s i j → Reached braced_turn s at d j
  braces-clear r h c = pass-clear braced_turn braces s at d braces-pass h c r

  module _ {i : ℕ} (r : Reached braced_turn s at d i) (h : i < length s) (e : get_or s i 0 ≡ 0x5C) where
    pub braces-far : i + 1 < length s → Reached braced_turn s at d (i + 2)
    braces-far l = let q : i + 1 + 1 ≡ i + 2 = omega arith in subst (Reached braced_turn s at d) q (braces-escape r h e l)

    pub braces-eof : length s ≤ i + 1 →
        (Err (fault_at UnexpectedEof (i + 1)) ≡ step_of (in_braces s at)) × Onward (length s) 0 at (Err (fault_at UnexpectedEof (i + 1)))
    braces-eof l = braces-end (braces-cut r h e l) l

module _ {s : List ℕ} {at : ℕ} where
  quoted-pass : PassesOutside quoted_turn quotes s at 0
  unfolding in_set
  quoted-pass k r h f = quoted-plain r h (told-apart (in_set quotes) 0x22 refl f) (told-apart (in_set quotes) 0x5C refl f)

  pub quoted-clear : {i j : ℕ} → Reached quoted_turn s at 0 i → i ≤ length s → Clear quotes s i j → Reached quoted_turn s at 0 j
  quoted-clear r h c = pass-clear quoted_turn quotes s at 0 quoted-pass h c r

  pub quoted-far : {i : ℕ} → Reached quoted_turn s at 0 i → i + 1 < length s → get_or s i 0 ≡ 0x5C → Reached quoted_turn s at 0 (i + 2)
  quoted-far {i} r h e = let q : i + 1 + 1 ≡ i + 2 = omega arith in subst (Reached quoted_turn s at 0) q (quoted-escape r (omega arith) e h)

onward : (n i j : ℕ) (r : Result ℕ Fault) → i ≤ j → j ≤ max i n → Onward n 0 j r → Onward n 0 i r
onward n i j (Ok p) l m h = (omega arith, omega arith)
onward n i j (Err f) l m h = h

pub quoted-rest : {s : List ℕ} {at i : ℕ} {r : Result ℕ Fault} → Reached quoted_turn s at 0 i → (r ≡ step_of (quoted s i)) × Onward (length s) 0 i r →
    (r ≡ step_of (quoted s at)) × Onward (length s) 0 at r
unfolding quoted
quoted-rest {s} {at} {i} {r} x h = (h.0 ∙ ap step_of (sym x.same), onward (length s) at i r x.from x.to h.1)
