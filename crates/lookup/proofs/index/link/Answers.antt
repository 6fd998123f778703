-- `lookup::index::link` meets its contract. Assumes nothing.
use Rattle.std.proofs.Common.{refl, ◌∙◌, arith}
use Rattle.lookup.proofs.rows.RowNumbers.{name_by}
use Rattle.lookup.proofs.links.LinkWays.{link-not, link-later, link-new, links-made}
use Rattle.lookup.proofs.index.link.Goals as goal

pub returns-then-rows-at-ne-DEFINITION_NAME : goal.returns-then-rows-at-ne-DEFINITION_NAME
returns-then-rows-at-ne-DEFINITION_NAME c =
    let a = c.args in
    links-made a.file.now a.rows.now a.i a.most _ _
    (link-not a.file.now a.rows.now a.i a.heads.now a.next.now c.requires c.if-rows-at-ne-DEFINITION_NAME.true)

pub returns-then-is_none : goal.returns-then-is_none
returns-then-is_none c =
    let a = c.args in
    let name = c.from-name.ensures ∙ name_by a.file.now a.rows.now a.i (omega (arith, c.requires.inside)) _ _ refl refl in
    links-made a.file.now a.rows.now a.i a.most _ _
    (link-new a.file.now a.rows.now a.i a.heads.now a.next.now c.requires _ c.if-rows-at-ne-DEFINITION_NAME.false name _ c.in_ok-later.ensures
    c.if-is_none.ensures _ c.bucket-b.ensures)

pub returns-else-is_none : goal.returns-else-is_none
returns-else-is_none c =
    let a = c.args in
    let name = c.from-name.ensures ∙ name_by a.file.now a.rows.now a.i (omega (arith, c.requires.inside)) _ _ refl refl in
    links-made a.file.now a.rows.now a.i a.most _ _
    (link-later a.file.now a.rows.now a.i a.heads.now a.next.now c.requires _ c.if-rows-at-ne-DEFINITION_NAME.false name _ c.in_ok-later.ensures
    c.if-is_none.ensures)
