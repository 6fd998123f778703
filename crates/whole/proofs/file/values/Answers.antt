-- `whole::file::values` meets its contract. Assumes nothing.
use native.Mathlib.Omega.{arith}
use Rattle.row.specs.Numbers.{rows_of}
use Rattle.whole.proofs.counting.RowKinds.{inside, past, values-on, values_other, values-end}
use Rattle.whole.proofs.file.values.Goals.{then-is_value, else-is_value}
use Rattle.whole.proofs.file.values.Goals as goal

pub loop-i-init : goal.loop-i-init
loop-i-init c = (omega arith, omega arith)

pub overflow_add-n : goal.overflow_add-n
overflow_add-n c = omega (arith, c.loop-i-test.true, c.loop-i.invariant.1)

pub loop-i-preserved : goal.loop-i-preserved
loop-i-preserved c =
    let l = c.loop-i in
    let a = c.args in
    let below = inside a.rows.now l.i c.loop-i-test.true in
    elim c.if-is_value.branch [
      | then-is_value w ↦ rw w.n-is
          (values-on (rows_of a.rows.now) l.i l.n l.invariant.0 below c.is_value.result c.is_value.ensures w.if-is_value.true, omega (arith, l.invariant.1))
      | else-is_value w ↦ rw w.n-is
          (values_other (rows_of a.rows.now) l.i l.n l.invariant.0 below c.is_value.result c.is_value.ensures w.if-is_value.false, omega (arith, l.invariant.1))
    ]

pub returns : goal.returns
returns c =
    let l = c.loop-i in
    let a = c.args in
    values-end (rows_of a.rows.now) l.i l.n l.invariant.0 (past a.rows.now l.i c.loop-i-test.false)
