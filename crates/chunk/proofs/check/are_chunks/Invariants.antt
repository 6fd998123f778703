-- The invariants of `chunk::check::are_chunks`.
use Rattle.chunk.proofs.rows.RowCheck as laws
use Rattle.chunk.proofs.check.are_chunks.Given as goal

abbrev pub invariant-loop-i : goal.invariant-loop-i
invariant-loop-i l = laws.Checking l.t l.rows l.i
