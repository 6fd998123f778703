-- `row::check::value_row` meets its contract. Assumes nothing.
use mathlib.Core.Path.{sym, ap}
use native.Mathlib.Omega.{arith}
use Rattle.row.specs.Numbers.{found_of}
use Rattle.row.proofs.numbers.Flat.{rows_end, rows_next}
use Rattle.row.proofs.check.value_row.Goals as goal

pub returns-then-rows-i-lt4 : goal.returns-then-rows-i-lt4
unfolding found_of
returns-then-rows-i-lt4 c = let a = c.args in sym (ap (found_of a.i) (rows_end a.rows.now a.i (omega arith)))

pub returns-then-rows-i : goal.returns-then-rows-i
unfolding found_of
returns-then-rows-i c =
    let a = c.args in
    rw (rows_next a.rows.now a.i (omega arith), c.if-rows-i.true)

pub returns : goal.returns
unfolding found_of
returns c =
    let a = c.args in
    rw (rows_next a.rows.now a.i (omega arith), c.if-rows-i.false)
