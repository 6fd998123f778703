-- The invariants of `chunk::format::lines`.
use Rattle.std.proofs.Common.{◌-◌}
use Rattle.chunk.proofs.texts.LineEnds as laws
use Rattle.chunk.proofs.format.lines.Given as goal

abbrev pub invariant-loop-i : goal.invariant-loop-i
invariant-loop-i l = laws.Lining l.t l.from l.to l.white l.initial.out l.at l.out l.w l.i l.j

abbrev pub decreases-loop-i : goal.decreases-loop-i
decreases-loop-i l = l.to - l.i
