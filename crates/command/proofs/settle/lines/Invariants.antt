-- The invariants of `command::settle::lines`.
use Rattle.std.proofs.Common.{◌-◌}
use Rattle.command.proofs.ways.SettleWays as laws
use Rattle.command.proofs.settle.lines.Given as goal

abbrev pub invariant-loop-i : goal.invariant-loop-i
invariant-loop-i l = laws.Lining l.initial.t l.from l.to l.white l.t l.w l.i l.j

abbrev pub decreases-loop-i : goal.decreases-loop-i
decreases-loop-i l = l.to - l.i
