-- `raw::entry::entry` meets its contract. Assumes nothing.
use Rattle.raw.proofs.contracts.SaysLaws.{says-exit}
use Rattle.raw.proofs.ways.TokenWays.{brace-ends}
use Rattle.raw.proofs.ways.EntryWays.{entry-at-off, entry-type-off, entry-rest-off, entry-end-off, entry-on}
use Rattle.raw.proofs.entry.entry.Goals as goal

pub name-requires : goal.name-requires
name-requires c = brace-ends

pub returns-in_err-p1-clause-says : goal.returns-in_err-p1-clause-says
returns-in_err-p1-clause-says c =
    let a = c.args in
    says-exit (entry-at-off a.piece.text.now a.at c.in_err-p1.ensures.0) c.from_residual.result c.from_residual.ensures.1

pub returns-in_err-p2-clause-says : goal.returns-in_err-p2-clause-says
returns-in_err-p2-clause-says c =
    let a = c.args in
    let r = c.from_residual-in_err-p2 in
    says-exit (entry-type-off a.piece.text.now a.at c.in_ok-p1.ensures.0 c.in_err-p2.ensures.0) r.result r.ensures.1

pub returns-in_err-p3-clause-says : goal.returns-in_err-p3-clause-says
returns-in_err-p3-clause-says c =
    let a = c.args in
    let r = c.from_residual-in_err-p3 in
    says-exit (entry-rest-off a.piece.text.now a.at c.in_ok-p1.ensures.0 c.in_ok-p2.ensures.0 c.form_of-form.ensures c.in_err-p3.ensures.says) r.result
    r.ensures.1

pub returns-in_err-p5-clause-says : goal.returns-in_err-p5-clause-says
returns-in_err-p5-clause-says c =
    let a = c.args in
    let r = c.from_residual-in_err-p5 in
    says-exit
    (entry-end-off a.piece.text.now a.at c.in_ok-p1.ensures.0 c.in_ok-p2.ensures.0 c.form_of-form.ensures c.in_ok-p3.ensures.says
    c.eat_whitespace-p4.ensures.0 c.in_err-p5.ensures.0)
    r.result r.ensures.1

pub returns-clause-says : goal.returns-clause-says
returns-clause-says c =
    let a = c.args in
    entry-on a.piece.text.now a.at c.in_ok-p1.ensures.0 c.in_ok-p2.ensures.0 c.form_of-form.ensures c.in_ok-p3.ensures.says c.eat_whitespace-p4.ensures.0
    c.in_ok-p5.ensures.0
