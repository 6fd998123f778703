-- `text::block::copy_short` meets its contract. Assumes nothing.
use Rattle.std.proofs.Common.{◌+◌, ◌-◌, ◌<◌, refl, ◌∙◌, arith, length, length-set}
use Rattle.text.proofs.general.Stores.{sets-parts, sets-none, sets_more, sets-done}
use Rattle.text.proofs.block.copy_short.Goals as goal

pub move_block-requires-then-n-ge8 : goal.move_block-requires-then-n-ge8
move_block-requires-then-n-ge8 c = omega (arith, c.move_block.auto.out)

pub returns-then-n-ge8 : goal.returns-then-n-ge8
returns-then-n-ge8 c =
    let a = c.args in
    sets-parts a.s.now a.out.now a.from a.at (a.n - 8) 8 (omega arith) (omega arith) (omega arith) (omega arith)
    c.move_block.ensures c.move_block-then-n-ge8.ensures

pub move_block-requires-then-n-ge4-2 : goal.move_block-requires-then-n-ge4-2
move_block-requires-then-n-ge4-2 c = omega (arith, c.move_block-then-n-ge4.auto.out)

pub returns-then-n-ge4 : goal.returns-then-n-ge4
returns-then-n-ge4 c =
    let a = c.args in
    sets-parts a.s.now a.out.now a.from a.at (a.n - 4) 4 (omega arith) (omega arith) (omega arith) (omega arith)
    c.move_block-then-n-ge4.ensures c.move_block-then-n-ge4-2.ensures

pub loop-i-init : goal.loop-i-init
loop-i-init c =
    let a = c.args in
    (refl, sets-none a.s.now a.out.now a.from a.at)

pub loop-i-preserved : goal.loop-i-preserved
loop-i-preserved c =
    let a = c.args in
    let b = c.loop-i in
    let inside : a.from + b.i < length a.s.now = omega arith in (
      length-set b.out (a.at + b.i) _ ∙ b.invariant.0,
      sets_more a.s.now a.out.now a.from a.at b.i inside b.invariant.1 refl,
    )

pub returns : goal.returns
returns c =
    let a = c.args in
    sets-done a.s.now a.out.now a.from a.at c.loop-i.invariant.1 (omega arith)
