-- `text::block::past_plain` meets its contract. Assumes nothing.
use Rattle.std.proofs.Common.{arith}
use Rattle.text.proofs.scanning.Blocks.{plain-none, plain-meet, plain-join, plain-block}
use Rattle.text.proofs.block.past_plain.Goals as goal

pub returns-then-not-has : goal.returns-then-not-has
returns-then-not-has c = plain-none

pub loop-i-init : goal.loop-i-init
loop-i-init c = (c.has.ensures c.if-not-has.false, plain-none)

pub returns-then-k-lt16 : goal.returns-then-k-lt16
returns-then-k-lt16 c = plain-join c.loop-i.invariant.1 c.plain_part-k.ensures.0

pub loop-i-preserved : goal.loop-i-preserved
loop-i-preserved c = (c.loop-i.invariant.0, plain-block c.loop-i.invariant.1 c.plain_part-k.ensures.0 (omega arith))

pub returns : goal.returns
returns c = plain-meet c.loop-i.invariant.1 c.plain_part.ensures.0 (omega arith) (omega arith)
