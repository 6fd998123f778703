-- `raw::entry::rest` meets its contract. Assumes nothing.
use Rattle.raw.proofs.contracts.SaysLaws.{says-exit}
use Rattle.raw.proofs.ways.EntryWays.{rest-off, rest-strings, rest-preamble, rest-comment, rest-other-off, rest-other}
use Rattle.raw.proofs.entry.rest.Goals as goal

pub returns-in_err-p1-clause-says : goal.returns-in_err-p1-clause-says
returns-in_err-p1-clause-says c =
    let a = c.args in
    says-exit (rest-off a.piece.text.now a.start a.at a.end a.form c.in_err-p1.ensures.0) c.from_residual.result c.from_residual.ensures.1

pub returns-in_err-p2-in-Other-clause-says : goal.returns-in_err-p2-in-Other-clause-says
returns-in_err-p2-in-Other-clause-says c =
    let a = c.args in
    let r = c.from_residual-in_err-p2-in-Other in
    says-exit (rest-other-off a.piece.text.now a.start a.at a.end a.form c.in_ok-p1.ensures.0 c.in-Other.is c.in_err-p2-in-Other.ensures.says)
    r.result r.ensures.1

pub returns-in-Strings-clause-says : goal.returns-in-Strings-clause-says
returns-in-Strings-clause-says c =
    let a = c.args in
    rest-strings a.piece.text.now a.start a.at a.end a.form c.in_ok-p1.ensures.0 c.in-Strings.is c.fields.ensures.says

pub returns-in-Preambles-clause-says : goal.returns-in-Preambles-clause-says
returns-in-Preambles-clause-says c =
    let a = c.args in
    rest-preamble a.piece.text.now a.start a.at a.end a.form c.in_ok-p1.ensures.0 c.in-Preambles.is c.preamble.ensures.says

pub returns-in-Comments-clause-says : goal.returns-in-Comments-clause-says
returns-in-Comments-clause-says c =
    let a = c.args in
    rest-comment a.piece.text.now a.start a.at a.end a.form c.in_ok-p1.ensures.0 c.in-Comments.is c.until.ensures.0

pub returns-in_ok-p2-in-Other-clause-says : goal.returns-in_ok-p2-in-Other-clause-says
returns-in_ok-p2-in-Other-clause-says c =
    let a = c.args in
    rest-other a.piece.text.now a.start a.at a.end a.form c.in_ok-p1.ensures.0 c.in-Other.is c.put_row.ensures c.in_ok-p2-in-Other.ensures.says
    c.put_row-in-Other.ensures
