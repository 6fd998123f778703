-- The invariants of `text::block::past_ascii`.
use Rattle.std.proofs.Common.{◌-◌, length}
use Rattle.text.specs.Block.{others, Clear}
use Rattle.text.proofs.block.past_ascii.Given as goal

abbrev pub invariant-loop-at : goal.invariant-loop-at
invariant-loop-at l = Clear others l.s l.at l.i

abbrev pub decreases-loop-at : goal.decreases-loop-at
decreases-loop-at l = length l.s - l.i
