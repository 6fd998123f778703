-- `whole::bound::most_of_names` meets its contract. Assumes nothing.
use native.Mathlib.Omega.{arith}
use Rattle.row.specs.Numbers.{rows_of}
use Rattle.whole.proofs.counting.NamesMost.{months-wider, defined-start, defined-on, defined-other, names-end}
use Rattle.whole.proofs.bound.most_of_names.Goals as goal

pub loop-i-init : goal.loop-i-init
loop-i-init c =
    let a = c.args in
    (c.most_of_months-most.ensures.0, defined-start (rows_of a.rows.now) c.most_of_months-most.result, c.most_of_months-most.ensures.1)

pub most_of-requires : goal.most_of-requires
most_of-requires c = (omega (arith, c.loop-i-test.true), tt)

pub loop-i-preserved : goal.loop-i-preserved
loop-i-preserved c =
    let l = c.loop-i in
    let a = c.args in
    let r = c.either-most.result in
    let e = c.either-most.ensures in (
      months-wider a.months.now l.most c.most_of.result r l.invariant.0 e,
      defined-on a.rows.now l.i l.most l.invariant.1 c.most_of.result r c.most_of.ensures.0 e,
      e.small l.invariant.2 c.most_of.ensures.1,
    )

pub loop-i-preserved-then-rows-i-ne-DEFINITION_NAME : goal.loop-i-preserved-then-rows-i-ne-DEFINITION_NAME
loop-i-preserved-then-rows-i-ne-DEFINITION_NAME c =
    let l = c.loop-i in
    let a = c.args in (
      l.invariant.0,
      defined-other a.rows.now l.i l.most l.invariant.1 c.loop-i-test.true c.if-rows-i-ne-DEFINITION_NAME.true,
      l.invariant.2,
    )

pub returns : goal.returns
returns c =
    let l = c.loop-i in
    let a = c.args in
    λ file words. names-end file a.rows.now a.months.now words l.i l.most l.invariant.0 c.loop-i-test.false l.invariant.1 l.invariant.2

pub returns-then-is_none : goal.returns-then-is_none
returns-then-is_none c = λ file words. (tt, λ _ _ _. tt)
