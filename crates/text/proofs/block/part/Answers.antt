-- `text::block::part` meets its contract. Assumes nothing.
use Rattle.std.proofs.Common.{◌+◌, arith}
use Rattle.text.proofs.scanning.Blocks.{before_more, ClearAt, part-done}
use Rattle.text.proofs.block.part.Goals as goal

pub loop-k-init : goal.loop-k-init
loop-k-init c = (omega arith, λ j l n. absurd (omega arith))

pub loop-k-preserved : goal.loop-k-preserved
loop-k-preserved c =
    let a = c.args in
    let b = c.type_inv.s (a.at + c.loop-k.k) in (
      omega arith,
      before_more (ClearAt a.x a.s.now) a.at c.loop-k.k c.loop-k.m _ c.min-m.ensures c.loop-k.invariant.1
          (λ h. (omega arith, c.distance.ensures (c.place.ensures h))),
    )

pub returns : goal.returns
returns c =
    let a = c.args in
    let v = c.loop-k in
    (part-done a.x a.s.now a.at v.m (omega arith) (omega arith) v.invariant.1, v.invariant.0)
