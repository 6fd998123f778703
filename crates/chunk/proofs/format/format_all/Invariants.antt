-- The invariants of `chunk::format::format_all`.
use Rattle.std.proofs.Common.{◌≤◌}
use Rattle.chunk.proofs.passes.PassTurns as laws
use Rattle.chunk.proofs.format.format_all.Given as goal

abbrev pub invariant-loop-i : goal.invariant-loop-i
invariant-loop-i l = laws.Formatting l.t l.rows l.initial.out l.out l.white l.at l.i × (l.at ≤ l.room)
