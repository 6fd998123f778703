-- `row::check::check` meets its contract. Assumes nothing.
use mathlib.Core.Path.{refl}
use native.Mathlib.Omega.{arith}
use Rattle.row.proofs.rules.CheckTurns.{turn, named_value, named_other, ended, bad-rows, bad-count}
use Rattle.row.proofs.check.check.Goals as goal

pub returns-then-rows-ne0 : goal.returns-then-rows-ne0
returns-then-rows-ne0 c = bad-count c.args.rows.now c.if-rows-ne0.true

pub loop-i-init : goal.loop-i-init
loop-i-init c = (c.if-rows-ne0.false, omega arith, omega arith, refl)

pub loop-i-preserved-in_default : goal.loop-i-preserved-in_default
loop-i-preserved-in_default c =
    let a = c.args in
    let m = c.loop-i.invariant in
    (m.0, omega arith, omega arith, turn a.rows.now c.loop-i.i c.loop-i.state _ (omega arith) c.step-state.ensures m.3)

pub returns-in_default-value_row : goal.returns-in_default-value_row
returns-in_default-value_row c =
    let a = c.args in
    let m = c.loop-i.invariant in
    bad-rows a.rows.now m.0
    (named_other a.rows.now c.loop-i.i c.loop-i.state _ _ _ (omega arith) c.step-state.ensures c.in-Value.is
    c.value_row.ensures m.3
    c.in_default-value_row.is)

pub loop-i-smaller : goal.loop-i-smaller
loop-i-smaller c =
    let a = c.args in
    let m = c.loop-i.invariant in
    let x = named_value a.rows.now c.loop-i.i c.loop-i.state _ _ _ (omega arith) c.step-state.ensures
    c.in-Value.is c.value_row.ensures m.3
    _ c.in-Some.is in
    omega (arith, x.0.0, x.0.1)

pub loop-i-preserved : goal.loop-i-preserved
loop-i-preserved c =
    let a = c.args in
    let m = c.loop-i.invariant in
    let x = named_value a.rows.now c.loop-i.i c.loop-i.state _ _ _ (omega arith) c.step-state.ensures
    c.in-Value.is c.value_row.ensures m.3
    _ c.in-Some.is in
    (m.0, omega (arith, x.0.0), omega (arith, x.0.0, x.0.1), x.1)

pub returns-then-is_whole : goal.returns-then-is_whole
returns-then-is_whole c =
    let a = c.args in
    let m = c.loop-i.invariant in
    rw (← c.is_whole.ensures, c.if-is_whole.true) at (ended a.rows.now c.loop-i.i c.loop-i.state c.loop-i-test.false m.0 m.3)

pub returns : goal.returns
returns c =
    let a = c.args in
    let m = c.loop-i.invariant in
    rw (← c.is_whole.ensures, c.if-is_whole.false) at (ended a.rows.now c.loop-i.i c.loop-i.state c.loop-i-test.false m.0 m.3)
