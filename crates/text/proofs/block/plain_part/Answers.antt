-- `text::block::plain_part` meets its contract. Assumes nothing.
use Rattle.std.proofs.Common.{arith}
use Rattle.text.proofs.scanning.Blocks.{before_more, PlainAt, plain_done}
use Rattle.text.proofs.block.plain_part.Goals as goal

pub loop-k-init : goal.loop-k-init
loop-k-init c = (omega arith, λ j l n. absurd (omega arith))

pub loop-k-preserved : goal.loop-k-preserved
loop-k-preserved c = (
  omega arith,
  before_more (PlainAt c.args.s.now) c.args.at c.loop-k.k c.loop-k.m _ c.min-m.ensures c.loop-k.invariant.1
      (λ h. c.apart_from_plain.ensures (c.place.ensures h)),
)

pub returns : goal.returns
returns c =
    let a = c.args in
    let v = c.loop-k in
    (plain_done a.s.now a.at v.m (omega arith) (omega arith) v.invariant.1, v.invariant.0)
