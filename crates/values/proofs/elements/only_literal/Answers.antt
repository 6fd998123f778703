-- `values::elements::only_literal` meets its contract. Assumes nothing.
use Rattle.std.proofs.Common.{◌∙◌, sym, ap}
use Rattle.std.specs.Option.{is_some}
use Rattle.values.proofs.naming.OpenWays.{has}
use Rattle.values.proofs.ways.ElementWays.{only-one}
use Rattle.values.proofs.elements.only_literal.Goals as goal

pub returns : goal.returns
returns c =
    let first = has c.in-Some-Literal.is c.in-Some-Literal.field-0-is in
    only-one _ _ c.in-Some-Literal.start c.in-Some-Literal.end (sym c.element_at.ensures ∙ first)
    (ap is_some (sym c.element_at-2.ensures) ∙ sym c.is_some.ensures ∙ c.if-is_some.false)
