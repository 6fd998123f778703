-- `raw::value::braced` meets its contract. Assumes nothing.
use Rattle.raw.specs.Grammar.{opening, in_braces, closing, braced}
use Rattle.raw.proofs.grammar.Rowless.{opening-rowless, in-braces-rowless, closing-rowless}
use Rattle.raw.proofs.contracts.SaysLaws.{says_of, says-exit}
use Rattle.raw.proofs.ways.DelimitedLiteral.{opens-off, inside-off, closes}
use Rattle.raw.proofs.value.braced.Goals as goal

pub returns-in_err-p1-clause-says : goal.returns-in_err-p1-clause-says
unfolding braced
returns-in_err-p1-clause-says c =
    let a = c.args in
    says-exit
    (opens-off opening in_braces closing a.piece.text.now a.at (opening-rowless a.piece.text.now a.at) (in-braces-rowless a.piece.text.now) (closing-rowless a.piece.text.now)
    c.in_err-p1.ensures.0)
    c.from_residual.result c.from_residual.ensures.1

pub returns-in_err-p2-clause-says : goal.returns-in_err-p2-clause-says
unfolding braced
returns-in_err-p2-clause-says c =
    let a = c.args in
    let r = c.from_residual-in_err-p2 in
    says-exit
    (inside-off opening in_braces closing a.piece.text.now a.at (opening-rowless a.piece.text.now a.at) (in-braces-rowless a.piece.text.now) (closing-rowless a.piece.text.now)
    c.in_ok-p1.ensures.0 c.in_err-p2.ensures.0)
    r.result r.ensures.1

pub returns-clause-says : goal.returns-clause-says
unfolding braced
returns-clause-says c =
    let a = c.args in
    says_of
    (closes opening in_braces closing a.piece.text.now a.at (opening-rowless a.piece.text.now a.at) (in-braces-rowless a.piece.text.now) (closing-rowless a.piece.text.now)
    c.in_ok-p1.ensures.0 c.in_ok-p2.ensures.0 c.closing.ensures.0)
    c.literal.ensures
