-- `text::block::past` meets its contract. Assumes nothing.
use Rattle.std.proofs.Common.{arith}
use Rattle.text.proofs.scanning.Blocks.{clear_none, clear-join, clear-block}
use Rattle.text.proofs.block.past.Goals as goal

pub loop-x-init : goal.loop-x-init
loop-x-init c = clear_none

pub returns-then-k-lt16 : goal.returns-then-k-lt16
returns-then-k-lt16 c = clear-join c.loop-x.invariant c.part-k.ensures.0

pub overflow_add-i : goal.overflow_add-i
overflow_add-i c = let h = c.has.ensures c.loop-x-test.true in omega (arith, h)

pub loop-x-smaller : goal.loop-x-smaller
loop-x-smaller c = let h = c.has.ensures c.loop-x-test.true in omega (arith, h)

pub loop-x-preserved : goal.loop-x-preserved
loop-x-preserved c = clear-block c.loop-x.invariant c.part-k.ensures.0 (omega arith)
