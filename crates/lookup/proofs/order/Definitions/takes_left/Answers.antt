-- `lookup::order::Definitions::takes_left` meets its contract. Assumes nothing.
use Rattle.std.proofs.Common.{sym, ◌∙◌}
use Rattle.row.specs.Numbers.{rows_of}
use Rattle.lookup.specs.Order.{comes}
use Rattle.lookup.proofs.loops.MergeTurns.{first-left, first-right, first-both}
use Rattle.lookup.proofs.order.Definitions.takes_left.Goals as goal

pub returns-then-b-j : goal.returns-then-b-j
returns-then-b-j c =
    let a = c.args in
    sym (first-left (comes a.self.file.now (rows_of a.self.rows.now)) a.a.now a.b.now a.i a.j c.if-b-j.true)

pub returns-then-a-i : goal.returns-then-a-i
returns-then-a-i c =
    let a = c.args in
    sym (first-right (comes a.self.file.now (rows_of a.self.rows.now)) a.a.now a.b.now a.i a.j c.if-a-i.true c.if-b-j.false)

pub returns : goal.returns
returns c =
    let a = c.args in
    c.precedes.ensures ∙ sym (first-both (comes a.self.file.now (rows_of a.self.rows.now)) a.a.now a.b.now a.i a.j c.if-a-i.false c.if-b-j.false)
