-- Readers that look at one character, by what the code saw of it.
--     eaten-off, eaten-on      by the place that `eat_if` answered
--     byte-on, byte-off, byte-end    by the byte, where only ASCII passes the test: `narrow-is`, `narrow-or`
--     need-end, need-other, need-byte    the readers that want one character
-- Assumes nothing.
use Rattle.std.proofs.Common.{Option, Some, None, Ok, Err, ℕ, ◌+◌, ◌≤◌, ◌<◌, max, ◌≡◌, refl, sym, ap, ◌∙◌, Bool, true, false, cond, List, [], arith, length, get_or, drop, eqb}
use Rattle.std.proofs.Common.{ltb, eqb-true, ltb-true, ltb-false}
use mathlib.Core.Bool.{false≢true}
use borrow.Author.Tests.{eqb-false}
use Rattle.text.specs.Scan.{see, code, past_one, Inside}
use Rattle.text.proofs.general.Places.{drop-next}
use Rattle.text.proofs.Seeing.{seeing}
use Rattle.row.specs.declared.fault.Reason.{Reason}
use Rattle.row.specs.Fault.{fault_at}
use Rattle.raw.specs.Reader.{Out, ok, bad, eaten}
use Rattle.raw.specs.Grammar.{need}
use Rattle.raw.specs.Says.{step_of, Onward}

-- ---- by the place that `eat_if` answered

pub not_at : {i r : ℕ} → i ≤ r → (r ≡ i → ⊥) → i + 1 ≤ r
not_at {i} {r} l h = go (eqb r i) refl
  where
    go : (b : Bool) → eqb r i ≡ b → i + 1 ≤ r
    go true e = absurd (h (eqb-true r i e))
    go false e = omega (arith, eqb-false r i e)

module _ (t : ℕ → Bool) (s : List ℕ) (i : ℕ) (f : ℕ → Out) (o : Out) {r : ℕ} (e : r ≡ past_one t i (see s i)) where
  pub eaten-off : r ≡ i → eaten t (see s i) f o ≡ o
  eaten-off h = go (see s i) (seeing.see-inside s i) (sym e ∙ h)
    where
      by : (b : Bool) (n : ℕ) → i < n → cond b n i ≡ i → cond b (f n) o ≡ o
      by true n l q = absurd (omega arith)
      by false n l q = refl

      go : (x : Option (ℕ × ℕ)) → Inside s i x → past_one t i x ≡ i → eaten t x f o ≡ o
      go None l q = refl
      go (Some (c, n)) l q = by (t c) n l.0 q

  pub eaten-on : (r ≡ i → ⊥) → eaten t (see s i) f o ≡ f r
  eaten-on h = go (see s i) e
    where
      by : (b : Bool) (n : ℕ) → r ≡ cond b n i → cond b (f n) o ≡ f r
      by true n q = ap f (sym q)
      by false n q = absurd (h q)

      go : (x : Option (ℕ × ℕ)) → r ≡ past_one t i x → eaten t x f o ≡ f r
      go None q = absurd (h q)
      go (Some (c, n)) q = by (t c) n q

-- ---- by the byte

module _ (t : ℕ → Bool) (s : List ℕ) (i : ℕ) (f : ℕ → Out) (o : Out) where
  pub byte-end : length s ≤ i → eaten t (see s i) f o ≡ o
  byte-end h = rw (seeing.see-end s i h)

  module _ (narrow : (c : ℕ) → 0x80 ≤ c → t c ≡ false) (h : i < length s) where
    pub byte-on : t (get_or s i 0) ≡ true → eaten t (see s i) f o ≡ f (i + 1)
    byte-on q = go (ltb (get_or s i 0) 0x80) refl
      where
        go : (b : Bool) → ltb (get_or s i 0) 0x80 ≡ b → eaten t (see s i) f o ≡ f (i + 1)
        go true a = rw (seeing.see-ascii s i h (ltb-true _ _ a), q)
        go false a = absurd (false≢true (sym (narrow _ (ltb-false _ _ a)) ∙ q))

    pub byte-off : t (get_or s i 0) ≡ false → eaten t (see s i) f o ≡ o
    byte-off q = go (ltb (get_or s i 0) 0x80) refl
      where
        go : (b : Bool) → ltb (get_or s i 0) 0x80 ≡ b → eaten t (see s i) f o ≡ o
        go true a = rw (seeing.see-ascii s i h (ltb-true _ _ a), q)
        go false a =
            let w : 0x80 ≤ code (drop i s) = rw (drop-next s i h) (seeing.code-wide (get_or s i 0) (drop (i + 1) s) (ltb-false _ _ a)) in
            rw (seeing.see-at s i h, narrow (code (drop i s)) w)

-- ---- one character, or a refusal

module _ (t : ℕ → Bool) (reason : Reason) (s : List ℕ) (i : ℕ) where
  off-told : need t reason s i ≡ bad (fault_at reason i) → (Err (fault_at reason i) ≡ step_of (need t reason s i)) × Unit {0}
  off-told e = (sym (ap step_of e), tt)

  on-told : {r : ℕ} → need t reason s i ≡ ok r [] → i + 1 ≤ r → r ≤ max i (length s) →
      (Ok r ≡ step_of (need t reason s i)) × Onward (length s) 1 i (Ok r)
  on-told e h l = (sym (ap step_of e), (h, l))

  -- by the byte
  pub need-end : length s ≤ i → (Err (fault_at reason i) ≡ step_of (need t reason s i)) × Unit {0}
  need-end h = off-told (byte-end t s i (λ n. ok n []) (bad (fault_at reason i)) h)

  module _ (narrow : (c : ℕ) → 0x80 ≤ c → t c ≡ false) (h : i < length s) where
    pub need-other : t (get_or s i 0) ≡ false → (Err (fault_at reason i) ≡ step_of (need t reason s i)) × Unit {0}
    need-other q = off-told (byte-off t s i (λ n. ok n []) (bad (fault_at reason i)) narrow h q)

    pub need-byte : t (get_or s i 0) ≡ true → (Ok (i + 1) ≡ step_of (need t reason s i)) × Onward (length s) 1 i (Ok (i + 1))
    need-byte q = on-told (byte-on t s i (λ n. ok n []) (bad (fault_at reason i)) narrow h q) (omega arith) (omega arith)
