-- `chunk::biblatex::is_escapable` meets its contract. Assumes nothing.
use Rattle.chunk.specs.Format.{is_escapable}
use Rattle.chunk.proofs.texts.Escapes.{in_a_row}
use Rattle.chunk.proofs.biblatex.is_escapable.Goals as goal

pub returns : goal.returns
unfolding is_escapable
returns c = rw in_a_row
