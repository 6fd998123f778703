-- Laws of lists, and of the numbers that count in them.
--     add-over         one more in the first of two numbers that are added is one more in the second
--     sets-append      storing one list behind another is storing both, one after the other
--     every_drop       what holds of every element of a list holds of those behind the first n
--     every-mem        and of each by itself
-- Assumes nothing.
use Prim.Native.Nat.{ℕ, zero, suc, ◌+◌}
use native.Mathlib.Omega.{arith}
use mathlib.Core.Path.{◌≡◌, ap, ◌∙◌}
use mathlib.Core.Bool.{Bool, true}
use mathlib.Core.List.Memᴰ
use mathlib.Core.List.{List, [], ◌∷◌, ◌++◌, Memᴰ}
use lib.ListN.{length, drop, set}
use lib.Seq.{sets}
use Rattle.text.specs.Every.{every}
use Rattle.text.proofs.general.Tests.{both_true}

pub add-over : (n m : ℕ) → suc n + m ≡ n + suc m
add-over n m = omega arith

pub sets-append : (v w o : List ℕ) (n : ℕ) → sets o n (v ++ w) ≡ sets (sets o n v) (n + length v) w
sets-append [] w o n = ap (λ (k : ℕ). sets o k w) (omega arith)
sets-append (b ∷ v) w o n = sets-append v w (set o n b) (suc n) ∙ ap (λ (k : ℕ). sets (sets (set o n b) (suc n) v) k w) (add-over n (length v))

pub every_drop : {A : Type 0} (t : A → Bool) (n : ℕ) (xs : List A) → every t xs ≡ true → every t (drop n xs) ≡ true
unfolding every
every_drop t zero xs h = h
every_drop t (suc n) [] h = h
every_drop t (suc n) (x ∷ xs) h = every_drop t n xs (both_true (t x) (every t xs) h).1

pub every-mem : {A : Type 0} (t : A → Bool) (xs : List A) → every t xs ≡ true → {x : A} → Memᴰ x xs → t x ≡ true
unfolding every
every-mem t [] h m = absurd (Memᴰ.not-nil m)
every-mem t (y ∷ ys) h (Memᴰ.head q) = ap t q ∙ (both_true (t y) (every t ys) h).0
every-mem t (y ∷ ys) h (Memᴰ.tail m) = every-mem t ys (both_true (t y) (every t ys) h).1 m
