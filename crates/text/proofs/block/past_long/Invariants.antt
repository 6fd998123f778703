-- The invariants of `text::block::past_long`.
use Rattle.std.proofs.Common.{◌-◌, length}
use Rattle.text.specs.Block.{Clear}
use Rattle.text.proofs.block.past_long.Given as goal

abbrev pub invariant-loop-x : goal.invariant-loop-x
invariant-loop-x l = Clear l.x l.s l.at l.i

abbrev pub decreases-loop-x : goal.decreases-loop-x
decreases-loop-x l = length l.s - l.i
