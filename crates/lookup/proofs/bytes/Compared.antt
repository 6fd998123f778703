-- Texts compared as the library compares slices.
--     same_decided    a test of whether two texts are equal answers what `same_bytes` says
--     order_cmp       `cmp` answers what `order_of` says
-- Assumes nothing.
use Rattle.std.proofs.Common.{◌≡◌, ℕ, Bool, Decides, List, [], ◌∷◌, nat_cmp, refl, arith}
use Rattle.std.proofs.lemmas.Bool.Decides.{nat_tests, same_from_decides}
use Rattle.std.specs.Cmp.Lexicographic.{slice_cmp}
use Rattle.text.specs.SameBytes.{same_bytes}
use Rattle.text.proofs.general.SameBytes.{same_true, same_self}
use Rattle.lookup.specs.Order.{order_of}

pub same_decided : (a b : List ℕ) (r : Bool) → Decides r (a ≡ b) → r ≡ same_bytes a b
same_decided a b r d = same_from_decides r (same_bytes a b) d (same_true a b, λ e. rw e (same_self b))

pub order_cmp : (a b : List ℕ) → slice_cmp nat_cmp a b ≡ order_of a b
unfolding order_of
order_cmp [] [] = refl
order_cmp [] (y ∷ b) = refl
order_cmp (x ∷ a) [] = refl
order_cmp (x ∷ a) (y ∷ b) = grind (arith, nat_tests, order_cmp a b)
