-- The invariants of `turn::turn::past_simple`.
use Rattle.std.proofs.Common.{◌-◌, length}
use Rattle.text.specs.Block.{PlainRun}
use Rattle.turn.proofs.turn.past_simple.Given as goal

abbrev pub invariant-loop-i : goal.invariant-loop-i
invariant-loop-i l = PlainRun l.s l.at l.i

abbrev pub decreases-loop-i : goal.decreases-loop-i
decreases-loop-i l = length l.s - l.i
