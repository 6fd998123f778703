-- The invariants of `chunk::biblatex::write_all`.
use Rattle.std.proofs.Common.{◌+◌, ◌≤◌}
use Rattle.chunk.proofs.passes.PassTurns as laws
use Rattle.chunk.proofs.biblatex.write_all.Given as goal

abbrev pub invariant-loop-i : goal.invariant-loop-i
invariant-loop-i l = laws.WritingBiblatex l.verb l.t l.rows l.initial.out l.initial.at l.out l.extra l.at l.i × (l.at ≤ l.room + 1)
