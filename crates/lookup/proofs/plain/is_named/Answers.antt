-- `lookup::plain::is_named` meets its contract. Assumes nothing.
use Rattle.std.proofs.Common.{refl, ◌∙◌}
use Rattle.lookup.proofs.rows.RowNumbers.{name_by, named-not, named-if}
use Rattle.lookup.proofs.plain.is_named.Goals as goal

pub returns-then-rows-at-ne-DEFINITION_NAME : goal.returns-then-rows-at-ne-DEFINITION_NAME
returns-then-rows-at-ne-DEFINITION_NAME c =
    let a = c.args in
    named-not a.file.now a.rows.now a.i c.requires a.name.now c.if-rows-at-ne-DEFINITION_NAME.true

pub returns : goal.returns
returns c =
    let a = c.args in
    let name = c.from.ensures ∙ name_by a.file.now a.rows.now a.i c.requires _ _ refl refl in
    named-if a.file.now a.rows.now a.i c.requires a.name.now _ _ c.if-rows-at-ne-DEFINITION_NAME.false name c.equal.ensures
