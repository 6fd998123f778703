-- What follows from a test that passes, and tests that only ASCII passes.
--     both_true       where `a && b` passes, a passes and b passes
--     both_false      where `a || b` fails, a fails and b fails
--     true-not-false  no test both passes and fails
--     beq-eq          two tests that compare as equal are equal
--     within-true     a number that passes the test of a range lies in it
--     told-apart      where one number passes a test and another does not, the two numbers differ
--     narrow-is       a character that is not ASCII is not equal to one that is
--     narrow-or       where only ASCII passes each of two tests, only ASCII passes their "or"
-- Assumes nothing.
use Prim.Native.Nat.{ℕ, ◌≤◌, ◌<◌}
use native.Mathlib.Omega.{arith}
use mathlib.Core.Path.{◌≡◌, refl, sym, ap, ◌∙◌}
use mathlib.Core.Bool.{Bool, true, false, cond, ◌&&◌, ◌||◌, beq}
use lib.Dec.{T, eqb, leb}
use borrow.Author.Tests.{ne_eqb, leb-true}
use Rattle.text.specs.Range.{Range, within}

pub both_true : (a b : Bool) → (a && b) ≡ true → (a ≡ true) × (b ≡ true)
both_true true b e = (refl, e)
both_true false b e = let z : ◌≡◌ {A = ℕ} 0 1 = cc in absurd (omega arith)

pub both_false : (a b : Bool) → (a || b) ≡ false → (a ≡ false) × (b ≡ false)
both_false false b e = (refl, e)
both_false true b e = let z : ◌≡◌ {A = ℕ} 0 1 = cc in absurd (omega arith)

pub true-not-false : {X : Type 0} (b : Bool) → b ≡ true → b ≡ false → X
true-not-false b h k = let z : ◌≡◌ {A = ℕ} 0 1 = cc in absurd (omega arith)

pub beq-eq : (a b : Bool) → T (beq a b) → a ≡ b
beq-eq true true t = refl
beq-eq true false t = absurd t
beq-eq false true t = absurd t
beq-eq false false t = refl

pub within-true : (r : Range) (b : ℕ) → within r b ≡ true → (r.first ≤ b) × (b ≤ r.last)
within-true r b e = let h = both_true (leb r.first b) (leb b r.last) e in (leb-true _ _ h.0, leb-true _ _ h.1)

pub told-apart : (t : ℕ → Bool) (y : ℕ) → t y ≡ true → {b : ℕ} → t b ≡ false → b ≡ y → ⊥
told-apart t y h {b} f e =
    let q : t b ≡ true = ap t e ∙ h in
    let z : ◌≡◌ {A = ℕ} 0 1 = ap (λ (c : Bool). cond c 0 1) (sym q ∙ f) in
    absurd (omega arith)

pub narrow-is : (k : ℕ) → k < 0x80 → (c : ℕ) → 0x80 ≤ c → eqb c k ≡ false
narrow-is k h c l = ne_eqb c k (λ e. omega arith)

pub narrow-or : (t u : ℕ → Bool) → ((c : ℕ) → 0x80 ≤ c → t c ≡ false) → ((c : ℕ) → 0x80 ≤ c → u c ≡ false) →
    (c : ℕ) → 0x80 ≤ c → (t c || u c) ≡ false
narrow-or t u h k c l = rw (h c l, k c l)
