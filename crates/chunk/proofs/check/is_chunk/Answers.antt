-- `chunk::check::is_chunk` meets its contract. Assumes nothing.
use Rattle.chunk.proofs.check.is_chunk.Goals as goal

pub returns : goal.returns
returns c = rw (c.is_boundary.ensures, c.is_boundary-2.ensures)
