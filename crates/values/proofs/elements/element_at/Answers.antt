-- `values::elements::element_at` meets its contract. Assumes nothing.
use Rattle.values.proofs.ways.ElementWays.{element-end, element-literal, element-name, element-other}
use Rattle.values.proofs.elements.element_at.Goals as goal

pub returns-then-rows-i : goal.returns-then-rows-i
returns-then-rows-i c = let a = c.args in element-end a.rows.now a.i c.if-rows-i.true

pub returns-then-kind-eq-LITERAL : goal.returns-then-kind-eq-LITERAL
returns-then-kind-eq-LITERAL c =
    let a = c.args in
    element-literal a.rows.now a.i c.if-rows-i.false c.if-kind-eq-LITERAL.true

pub returns-then-kind-eq-NAME : goal.returns-then-kind-eq-NAME
returns-then-kind-eq-NAME c =
    let a = c.args in
    element-name a.rows.now a.i c.if-rows-i.false c.if-kind-eq-LITERAL.false c.if-kind-eq-NAME.true

pub returns : goal.returns
returns c =
    let a = c.args in
    element-other a.rows.now a.i c.if-rows-i.false c.if-kind-eq-LITERAL.false c.if-kind-eq-NAME.false
