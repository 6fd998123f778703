-- `lookup::order::Definitions::name` meets its contract. Assumes nothing.
use Rattle.std.proofs.Common.{refl, ◌∙◌}
use Rattle.lookup.proofs.rows.RowNumbers.{name_by}
use Rattle.lookup.proofs.loops.RowsCompared.{name-past}
use Rattle.lookup.proofs.order.Definitions.name.Goals as goal

pub returns-then-self-i : goal.returns-then-self-i
returns-then-self-i c =
    let a = c.args in
    c.from.ensures ∙ name-past a.self.file.now a.self.rows.now a.i c.if-self-i.true

pub returns : goal.returns
returns c =
    let a = c.args in
    c.from-2.ensures ∙ name_by a.self.file.now a.self.rows.now a.i c.if-self-i.false _ _ refl refl
