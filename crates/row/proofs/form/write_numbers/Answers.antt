-- `row::form::write_numbers` meets its contract. Assumes nothing.
use native.Mathlib.Omega.{arith}
use lib.ListN.{length-set}
use Rattle.row.specs.Row.{row_of}
use Rattle.row.proofs.numbers.Overlay.{put-sets, put-out}
use Rattle.row.proofs.form.write_numbers.Goals as goal

pub bounds-rows-i-then-n-rows : goal.bounds-rows-i-then-n-rows
bounds-rows-i-then-n-rows c = simp length-set (omega arith)

pub bounds-rows-i-then-n-rows-2 : goal.bounds-rows-i-then-n-rows-2
bounds-rows-i-then-n-rows-2 c = simp length-set (omega arith)

pub bounds-rows-i-then-n-rows-3 : goal.bounds-rows-i-then-n-rows-3
bounds-rows-i-then-n-rows-3 c = simp length-set (omega arith)

pub returns-then-n-rows : goal.returns-then-n-rows
returns-then-n-rows c =
    let a = c.args in
    put-sets a.rows.now a.n (row_of a.kind a.detail a.start a.end) c.if-n-rows.true

pub returns-else-n-rows : goal.returns-else-n-rows
returns-else-n-rows c = let a = c.args in put-out a.rows.now a.n (row_of a.kind a.detail a.start a.end) c.if-n-rows.false
