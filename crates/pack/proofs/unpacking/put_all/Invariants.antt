-- The invariants of `pack::unpacking::put_all`.
use Rattle.pack.proofs.loops.RowWriting.{Unpacking}
use Rattle.pack.proofs.unpacking.put_all.Given as goal

abbrev pub invariant-loop-n : goal.invariant-loop-n
invariant-loop-n l = Unpacking l.bytes l.initial.rows l.n l.rows
