-- `lookup::order::Definitions::precedes` meets its contract. Assumes nothing.
use Rattle.std.proofs.Common.{sym, ◌∙◌, Less, Equal, Greater}
use Rattle.row.specs.Numbers.{rows_of}
use Rattle.lookup.proofs.loops.RowsCompared.{comes-by}
use Rattle.lookup.proofs.order.Definitions.precedes.Goals as goal

pub returns-in-Less : goal.returns-in-Less
returns-in-Less c =
    let a = c.args in
    comes-by a.self.file.now (rows_of a.self.rows.now) a.i a.j _ _ c.name.ensures c.name-2.ensures Less
    (sym c.in-Less.is ∙ c.compare.ensures)

pub returns-in-Equal : goal.returns-in-Equal
returns-in-Equal c =
    let a = c.args in
    comes-by a.self.file.now (rows_of a.self.rows.now) a.i a.j _ _ c.name.ensures c.name-2.ensures Equal
    (sym c.in-Equal.is ∙ c.compare.ensures)

pub returns-in-Greater : goal.returns-in-Greater
returns-in-Greater c =
    let a = c.args in
    comes-by a.self.file.now (rows_of a.self.rows.now) a.i a.j _ _ c.name.ensures c.name-2.ensures Greater
    (sym c.in-Greater.is ∙ c.compare.ensures)
