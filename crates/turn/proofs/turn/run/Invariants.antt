-- The invariants of `turn::turn::run`.
use Rattle.std.proofs.Common.{◌-◌, length}
use Rattle.turn.specs.Turns.{CopiesAll}
use Rattle.turn.proofs.turn.run.Given as goal

abbrev pub invariant-loop-at : goal.invariant-loop-at
invariant-loop-at l = CopiesAll l.s l.at l.i

abbrev pub decreases-loop-at : goal.decreases-loop-at
decreases-loop-at l = length l.s - l.i
