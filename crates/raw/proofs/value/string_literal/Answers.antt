-- `raw::value::string_literal` meets its contract. Assumes nothing.
use Rattle.raw.specs.Grammar.{quote, quoted, string_literal}
use Rattle.raw.proofs.grammar.Rowless.{quote-rowless, quoted-rowless}
use Rattle.raw.proofs.contracts.SaysLaws.{says_of, says-exit}
use Rattle.raw.proofs.ways.DelimitedLiteral.{opens-off, inside-off, closes}
use Rattle.raw.proofs.value.string_literal.Goals as goal

pub returns-in_err-p1-clause-says : goal.returns-in_err-p1-clause-says
unfolding string_literal
returns-in_err-p1-clause-says c =
    let a = c.args in
    says-exit
    (opens-off quote quoted quote a.piece.text.now a.at (quote-rowless a.piece.text.now a.at) (quoted-rowless a.piece.text.now) (quote-rowless a.piece.text.now)
    c.in_err-p1.ensures.0)
    c.from_residual.result c.from_residual.ensures.1

pub returns-in_err-p2-clause-says : goal.returns-in_err-p2-clause-says
unfolding string_literal
returns-in_err-p2-clause-says c =
    let a = c.args in
    let r = c.from_residual-in_err-p2 in
    says-exit
    (inside-off quote quoted quote a.piece.text.now a.at (quote-rowless a.piece.text.now a.at) (quoted-rowless a.piece.text.now) (quote-rowless a.piece.text.now)
    c.in_ok-p1.ensures.0 c.in_err-p2.ensures.0)
    r.result r.ensures.1

pub returns-clause-says : goal.returns-clause-says
unfolding string_literal
returns-clause-says c =
    let a = c.args in
    says_of
    (closes quote quoted quote a.piece.text.now a.at (quote-rowless a.piece.text.now a.at) (quoted-rowless a.piece.text.now) (quote-rowless a.piece.text.now)
    c.in_ok-p1.ensures.0 c.in_ok-p2.ensures.0 c.quote-2.ensures.0)
    c.literal.ensures
