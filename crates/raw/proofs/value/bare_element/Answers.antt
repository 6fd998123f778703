-- `raw::value::bare_element` meets its contract. Assumes nothing.
use Rattle.std.proofs.Common.{ap, ◌∙◌, arith}
use Rattle.row.specs.declared.form.Kind.TheVariants as kind
use Rattle.row.specs.Row.{row}
use Rattle.raw.specs.Reader.{under}
use Rattle.raw.specs.Grammar.{number, ident}
use Rattle.raw.proofs.grammar.Rowless.{rowless-at, rowless-off, number-rowless, ident-rowless}
use Rattle.raw.proofs.contracts.SaysLaws.{says_of, says_on, says-off, says-exit, says-under}
use Rattle.raw.proofs.ways.OneCharacter.{not_at}
use Rattle.raw.proofs.ways.ElementWays.{single-none, element-number, number_past, element-name, element-field}
use Rattle.raw.proofs.value.bare_element.Goals as goal

pub returns-in_err-p1-clause-says : goal.returns-in_err-p1-clause-says
returns-in_err-p1-clause-says c =
    let a = c.args in
    says-exit
    (element-number a.piece.text.now a.at c.eat_if-digit.ensures.0 c.if-digit-at.true
    ∙ ap (under (row kind.Literal a.at)) (rowless-off (number a.piece.text.now a.at) c.in_err-p1.ensures.0))
    c.from_residual.result c.from_residual.ensures.1

pub returns-then-digit-at-clause-says : goal.returns-then-digit-at-clause-says
returns-then-digit-at-clause-says c =
    let a = c.args in
    let e = rowless-at (number-rowless a.piece.text.now a.at) c.in_ok-p1.ensures.0 in
    rw c.put_row.ensures
    (says_of (element-number a.piece.text.now a.at c.eat_if-digit.ensures.0 c.if-digit-at.true) (says-under kind.Literal a.at (says_on e)))

pub returns-then-digit-at-clause-within : goal.returns-then-digit-at-clause-within
returns-then-digit-at-clause-within c =
    let a = c.args in
    let k = c.in_ok-p1.ensures.1 in
    let e = rowless-at (number-rowless a.piece.text.now a.at) c.in_ok-p1.ensures.0 in
    let l = number_past a.piece.text.now a.at c.eat_if-digit.ensures.0 c.if-digit-at.true e in
    let m = not_at c.eat_if-digit.ensures.1.from c.if-digit-at.true in
    (omega arith, omega arith, omega arith)

pub returns-in_err-p2-clause-says : goal.returns-in_err-p2-clause-says
returns-in_err-p2-clause-says c =
    let a = c.args in
    let r = c.from_residual-in_err-p2 in
    says-exit
    (element-name a.piece.text.now a.at c.eat_if-digit.ensures.0 c.if-digit-at.false c.eat_if-start.ensures.0 c.if-start-at.true
    ∙ ap (under (row kind.Name a.at)) (rowless-off (ident a.piece.text.now a.at) c.in_err-p2.ensures.0))
    r.result r.ensures.1

pub returns-then-start-at-clause-says : goal.returns-then-start-at-clause-says
returns-then-start-at-clause-says c =
    let a = c.args in
    let e = rowless-at (ident-rowless a.piece.text.now a.at) c.in_ok-p2.ensures.0 in
    rw c.put_row-then-start-at.ensures
    (says_of (element-name a.piece.text.now a.at c.eat_if-digit.ensures.0 c.if-digit-at.false c.eat_if-start.ensures.0 c.if-start-at.true)
    (says-under kind.Name a.at (says_on e)))

pub returns-clause-says : goal.returns-clause-says
returns-clause-says c =
    let a = c.args in
    rw c.fault_at.ensures
    (says-off
    (element-field a.piece.text.now a.at c.eat_if-digit.ensures.0 c.if-digit-at.false c.eat_if-start.ensures.0 c.if-start-at.false
    ∙ single-none a.piece.text.now a.at c.requires.1))
