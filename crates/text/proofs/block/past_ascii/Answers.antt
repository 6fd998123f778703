-- `text::block::past_ascii` meets its contract. Assumes nothing.
use Rattle.text.proofs.scanning.Blocks.{clear_none, clear-join}
use Rattle.text.proofs.block.past_ascii.Goals as goal

pub returns-then-s-at-ge128 : goal.returns-then-s-at-ge128
returns-then-s-at-ge128 c = clear_none

pub loop-at-init : goal.loop-at-init
loop-at-init c = clear_none

pub returns-then-not-is_ascii : goal.returns-then-not-is_ascii
returns-then-not-is_ascii c = clear-join c.loop-at.invariant c.past.ensures

pub loop-at-preserved : goal.loop-at-preserved
loop-at-preserved c = clear-join c.loop-at.invariant (c.is_ascii.ensures c.if-not-is_ascii.false)
