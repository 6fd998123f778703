-- `lookup::order::Definitions::sort`, which calls itself with a smaller depth, meets its contract. Assumes nothing.
use Rattle.std.proofs.Common.{◌∙◌}
use Rattle.row.specs.Numbers.{rows_of}
use Rattle.lookup.specs.Order.{comes}
use Rattle.lookup.proofs.loops.SortWays.{sort-stays, copied-back, sort-whole}
use Rattle.lookup.proofs.order.Definitions.+sort.Goals as goal

pub returns-then-a-depth : goal.returns-then-a-depth
returns-then-a-depth t c =
    let a = c.args in
    sort-stays (comes a.self.file.now (rows_of a.self.rows.now)) a.depth a.a.now c.if-a-depth.true

pub returns : goal.returns
returns t c =
    let a = c.args in
    let le = comes a.self.file.now (rows_of a.self.rows.now) in
    let one = c.sort in
    let two = c.sort-2 in
    sort-whole a.a.now one.new.a one.auto.a le a.depth two.new.a _ _ c.if-a-depth.false one.ensures two.ensures
    c.merge_halves.ensures (c.copy_numbers.ensures ∙ copied-back _ _)
