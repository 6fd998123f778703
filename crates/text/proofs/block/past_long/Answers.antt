-- `text::block::past_long` meets its contract. Assumes nothing.
use Rattle.text.proofs.scanning.Blocks.{clear_none, clear-join}
use Rattle.text.proofs.block.past_long.Goals as goal

pub loop-x-init : goal.loop-x-init
loop-x-init c = clear_none

pub loop-x-preserved : goal.loop-x-preserved
loop-x-preserved c = clear-join c.loop-x.invariant (c.is_clear.ensures c.if-not-is_clear.false)
