-- The invariants of `chunk::sentence::sentence_all`.
use Rattle.std.proofs.Common.{◌≤◌}
use Rattle.chunk.proofs.passes.PassTurns as laws
use Rattle.chunk.proofs.sentence.sentence_all.Given as goal

abbrev pub invariant-loop-i : goal.invariant-loop-i
invariant-loop-i l = laws.Sentencing l.t l.rows l.initial.out l.out l.s.first l.s.white l.s.at l.i × (l.s.at ≤ l.room)
