-- A walk over a text that passes some octets at each look, and ends with an answer.
-- Assumes nothing.
use Rattle.std.specs.Prelude.{ℕ, zero, suc, List, [], ◌∷◌, drop}

-- what a look decides: the answer, or to pass the octet it stands at and so many more
pub data Look (R : Type 0) : Type 0 where
  answer : R → Look R
  pass : ℕ → Look R

-- the walk by the looks f, at the place i with the text s from there on, k octets still to pass; at the end of the text, e
unfoldable pub walk_from : {R : Type 0} → (ℕ → List ℕ → Look R) → (ℕ → R) → ℕ → ℕ → List ℕ → R
walk_from f e i k [] = e i
walk_from f e i (suc k) (b ∷ s) = walk_from f e (suc i) k s
walk_from f e i zero (b ∷ s) = elim (f i (b ∷ s)) [ answer r ↦ r | pass k ↦ walk_from f e (suc i) k s ]

abbrev pub walk : {R : Type 0} → (ℕ → List ℕ → Look R) → (ℕ → R) → List ℕ → ℕ → R
walk f e s i = walk_from f e i 0 (drop i s)
