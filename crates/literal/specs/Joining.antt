-- Chunks that are joined as each is appended are `flatten` of all of them. The proof is `joining` of proofs/Joining.antt.
-- Assumes nothing.
use Rattle.std.specs.Prelude.{◌≡◌, List, [], ◌∷◌, ◌++◌}
use Rattle.chunk.specs.Chunk.{Chunk}
use Rattle.turn.specs.Content.{flatten}
use Rattle.literal.specs.Rows.{onto}

abbrev pub Joining : Type 0
Joining = (cs : List Chunk) (d : Chunk) → flatten (cs ++ d ∷ []) ≡ onto (flatten cs) d
