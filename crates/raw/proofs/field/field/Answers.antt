-- `raw::field::field` meets its contract. Assumes nothing.
use Rattle.raw.proofs.contracts.SaysLaws.{says-exit}
use Rattle.raw.proofs.ways.TokenWays.{equals-ends}
use Rattle.raw.proofs.ways.FieldWays.{name-off, equals-off, value-off, value_on, value-comma}
use Rattle.raw.proofs.field.field.Goals as goal

pub name-requires : goal.name-requires
name-requires c = equals-ends

pub returns-in_err-p1-clause-says : goal.returns-in_err-p1-clause-says
returns-in_err-p1-clause-says c =
    let a = c.args in
    says-exit (name-off a.kind a.piece.text.now a.at c.in_err-p1.ensures.0) c.from_residual.result c.from_residual.ensures.1

pub returns-in_err-p3-clause-says : goal.returns-in_err-p3-clause-says
returns-in_err-p3-clause-says c =
    let a = c.args in
    let r = c.from_residual-in_err-p3 in
    says-exit (equals-off a.kind a.piece.text.now a.at c.in_ok-p1.ensures.0 c.eat_whitespace-p2.ensures.0 c.in_err-p3.ensures.0) r.result r.ensures.1

pub returns-in_err-p5-clause-says : goal.returns-in_err-p5-clause-says
returns-in_err-p5-clause-says c =
    let a = c.args in
    let r = c.from_residual-in_err-p5 in
    says-exit
    (value-off a.kind a.piece.text.now a.at c.in_ok-p1.ensures.0 c.eat_whitespace-p2.ensures.0 c.in_ok-p3.ensures.0 c.eat_whitespace-p4.ensures.0
    c.in_err-p5.ensures.says)
    r.result r.ensures.1

pub returns-then-s-p5-eq44-clause-says : goal.returns-then-s-p5-eq44-clause-says
returns-then-s-p5-eq44-clause-says c =
    let a = c.args in
    value-comma a.kind a.piece.text.now a.at c.in_ok-p1.ensures.0 c.eat_whitespace-p2.ensures.0 c.in_ok-p3.ensures.0 c.eat_whitespace-p4.ensures.0
    c.put_row.ensures c.in_ok-p5.ensures.says c.if-p5-s.true c.if-s-p5-eq44.true

pub returns-clause-says : goal.returns-clause-says
returns-clause-says c =
    let a = c.args in
    value_on a.kind a.piece.text.now a.at c.in_ok-p1.ensures.0 c.eat_whitespace-p2.ensures.0 c.in_ok-p3.ensures.0 c.eat_whitespace-p4.ensures.0
    c.put_row.ensures c.in_ok-p5.ensures.says c.eat_whitespace-p6.ensures.0 c.comment-p7.ensures.0
