-- `raw::value::abbr_element` meets its contract. Assumes nothing.
use Rattle.raw.proofs.ways.DelimitedElement.{element-braced, element-quoted}
use Rattle.raw.proofs.contracts.SaysLaws.{says_of}
use Rattle.raw.proofs.value.abbr_element.Goals as goal

pub returns-then-b-eq123-clause-says : goal.returns-then-b-eq123-clause-says
returns-then-b-eq123-clause-says c =
    let a = c.args in
    says_of (element-braced a.piece.text.now a.at c.if-at-s.true c.if-b-eq123.true) c.braced.ensures.says

pub returns-then-b-eq34-clause-says : goal.returns-then-b-eq34-clause-says
returns-then-b-eq34-clause-says c =
    let a = c.args in
    says_of (element-quoted a.piece.text.now a.at c.if-at-s.true c.if-b-eq123.false c.if-b-eq34.true) c.string_literal.ensures.says
