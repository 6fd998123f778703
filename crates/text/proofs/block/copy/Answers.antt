-- `text::block::copy` meets its contract. Assumes nothing.
use Rattle.std.proofs.Common.{◌-◌, arith, refl, ◌∙◌}
use Rattle.text.proofs.general.Stores.{sets-parts, sets-none}
use Rattle.text.proofs.block.copy.Goals as goal

pub shape_of-out-then-n-lt16 : goal.shape_of-out-then-n-lt16
shape_of-out-then-n-lt16 c = c.copy_short.auto.out

pub returns-then-n-lt16 : goal.returns-then-n-lt16
returns-then-n-lt16 c = c.copy_short.ensures

pub loop-i-init : goal.loop-i-init
loop-i-init c =
    let a = c.args in
    (omega arith, refl, sets-none a.s.now a.out.now a.from a.at)

pub loop-i-preserved : goal.loop-i-preserved
loop-i-preserved c =
    let a = c.args in
    let b = c.loop-i in (
      omega arith,
      c.move_block.auto.out ∙ b.invariant.1,
      sets-parts a.s.now a.out.now a.from a.at b.i 16 (omega arith) (omega arith) refl (omega arith) b.invariant.2
          c.move_block.ensures,
    )

pub shape_of-out : goal.shape_of-out
shape_of-out c = c.move_block-2.auto.out ∙ c.loop-i.invariant.1

pub returns : goal.returns
returns c =
    let a = c.args in
    let b = c.loop-i in
    sets-parts a.s.now a.out.now a.from a.at (a.n - 16) 16 (omega arith) (omega arith) (omega arith) (omega arith) b.invariant.2
    c.move_block-2.ensures
