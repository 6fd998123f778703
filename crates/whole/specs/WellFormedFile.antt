-- What the values of a file are resolved into is well-formed: the rows of each value's chunks pass the check of the writers, so that these never
-- refuse them. The proof is `well-formed-file` of proofs/WellFormedFile.antt.
-- Assumes nothing.
use Rattle.std.specs.Prelude.{ℕ, ◌≡◌, List, [], ◌∷◌}
use Rattle.literal.specs.WellFormed.{Passes}
use Rattle.resolve.specs.Resolves.{Value}
use Rattle.whole.specs.WholeFile.{chunks_in, all, all_of}

-- a value that is refused has no chunks
unfoldable pub AllPass : List Value → Type 0
AllPass [] = Unit {0}
AllPass (v ∷ vs) = Passes (chunks_in v) × AllPass vs

pub record WellFormedFile : Type 0 where
  -- whatever the call was lent: with anything that does not pass its check it refuses
  pub values : (file rows flags months words : List ℕ) (w : ℕ) (vs : List Value) → all_of file rows flags months words w ≡ all vs → AllPass vs
