-- `raw::entry::body` meets its contract. Assumes nothing.
use Rattle.raw.proofs.contracts.SaysLaws.{says-exit}
use Rattle.raw.proofs.ways.EntryWays.{body-off, body-on}
use Rattle.raw.proofs.entry.body.Goals as goal

pub returns-in_err-p3-clause-says : goal.returns-in_err-p3-clause-says
returns-in_err-p3-clause-says c =
    let a = c.args in
    says-exit (body-off a.piece.text.now a.at c.key-p1.ensures.0 c.eat_whitespace-p2.ensures.0 c.in_err-p3.ensures.0)
    c.from_residual.result c.from_residual.ensures.1

pub returns-clause-says : goal.returns-clause-says
returns-clause-says c =
    let a = c.args in
    body-on a.piece.text.now a.at c.key-p1.ensures.0 c.eat_whitespace-p2.ensures.0 c.in_ok-p3.ensures.0 c.eat_whitespace-p4.ensures.0
    c.comment-p5.ensures.0 c.eat_whitespace-p6.ensures.0 c.put_row.ensures c.fields.ensures.says
