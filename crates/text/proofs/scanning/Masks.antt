-- The masks of the named tests, each checked by computing its test over all of ASCII.
--     masks           two words are a test's masks if their bits are the test's answers over ASCII
--     wide            masks that are not narrow promise nothing about what is not ASCII
--     digit, braces   only ASCII passes these tests
-- Assumes nothing.
use mathlib.Core.Path.{◌≡◌, sym, ap, subst}
use mathlib.Core.Bool.{Bool, true, false, ◌||◌, beq, and-false, or-false, or_assoc}
use mathlib.Core.List.{[], ◌∷◌}
use Prim.Native.Nat.{ℕ, ◌≤◌}
use native.Mathlib.Omega.{arith}
use lib.Dec.{T, leb}
use borrow.Author.Tests.{lt-leb}
use Rattle.text.proofs.general.Tests.{narrow-is, beq-eq}
use Rattle.text.specs.Range.{◌–◌, within}
use Rattle.text.specs.Class.{mark, holds_of}
use Rattle.text.specs.Inner.{masks_of, has_bit, AsciiOf}
use Rattle.text.specs.declared.class.Masks.{Masks}
use Rattle.text.specs.declared.class.Test.{Test}
use Rattle.text.proofs.general.Below.{below, each}

pub masks : (t : Test) (low high : ℕ) (narrow : Bool) → T (below (λ b. beq (has_bit low high b) (holds_of t b)) 128) →
    (narrow ≡ true → (c : ℕ) → 128 ≤ c → holds_of t c ≡ false) → {u : Test} {m : Masks} → u ≡ t → m ≡ masks_of low high narrow → AsciiOf u m
masks t low high narrow computed others {u} {m} p q =
    subst (λ (v : Test). AsciiOf v m) (sym p)
    (subst (AsciiOf t) (sym q)
    (record {
      bits = λ b h. beq-eq (has_bit low high b) (holds_of t b) (each (λ n. beq (has_bit low high n) (holds_of t n)) 128 computed b h);
      others = others;
    }))

pub wide : {A : Type 0} → ◌≡◌ {A = Bool} false true → A
wide e = let z : ◌≡◌ {A = ℕ} 0 1 = cc in absurd (omega arith)

pub digit : (c : ℕ) → 128 ≤ c → within (0x30 – 0x39) c ≡ false
digit c l = rw (lt-leb c 0x39 (omega arith)) (and-false (leb 0x30 c))

pub braces : (c : ℕ) → 128 ≤ c → mark (0x7B ∷ 0x7D ∷ []) c ≡ false
braces c l = rw (narrow-is 0x7B (omega arith) c l, narrow-is 0x7D (omega arith) c l)

-- equal tests have the same answer
pub told : {u t : Test} (c : ℕ) → u ≡ t → holds_of t c ≡ holds_of u c
told c p = ap (λ (v : Test). holds_of v c) (sym p)

-- thirteen tests joined by "or", as the code joins them and as `mark` does
pub thirteen : (a b c d e f g h i j k l m : Bool) →
    (a || b || c || d || e || f || g || h || i || j || k || l || m) ≡ (a || (b || (c || (d || (e || (f || (g || (h || (i || (j || (k || (l || (m || false)))))))))))))
thirteen a b c d e f g h i j k l m = simp (or_assoc, or-false)
