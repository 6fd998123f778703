-- `raw::file::FileTurnsLoop::turn` meets its contract. Assumes nothing.
use Rattle.std.proofs.Common.{refl, ◌∙◌, arith}
use Rattle.raw.proofs.readers.Then.{then-off}
use Rattle.raw.proofs.contracts.SaysLaws.{said-off, turn-of, turn-done, turn-again, turn-exit, turn-then}
use Rattle.raw.proofs.ways.FileWays.{file-end, file-entry, file-comment, file-other, comment-further}
use Rattle.raw.proofs.file.FileTurnsLoop.turn.Goals as goal

pub returns-then-s-p1-clause-says : goal.returns-then-s-p1-clause-says
returns-then-s-p1-clause-says c = let a = c.args in turn-done (file-end a.piece.text.now a.at c.eat_gap-p1.ensures.0 c.if-s-p1.true)

pub returns-in_err-p2-clause-says : goal.returns-in_err-p2-clause-says
returns-in_err-p2-clause-says c =
    let a = c.args in
    let e = file-entry a.piece.text.now a.at c.eat_gap-p1.ensures.0 c.if-s-p1.false c.if-b-eq64.true in
    turn-exit (e ∙ then-off _ (said-off c.in_err-p2.ensures.says)) c.from_residual.result c.from_residual.ensures.1

pub returns-then-b-eq64-clause-says : goal.returns-then-b-eq64-clause-says
returns-then-b-eq64-clause-says c =
    let a = c.args in
    let e = file-entry a.piece.text.now a.at c.eat_gap-p1.ensures.0 c.if-s-p1.false c.if-b-eq64.true in
    turn-of e (turn-then _ c.in_ok-p2.ensures.says (turn-again refl))

pub returns-then-b-eq37-clause-says : goal.returns-then-b-eq37-clause-says
returns-then-b-eq37-clause-says c =
    let a = c.args in
    turn-again (file-comment a.piece.text.now a.at c.eat_gap-p1.ensures.0 c.if-s-p1.false c.if-b-eq37.true c.comment.ensures.0)

pub returns-then-b-eq37-clause-within : goal.returns-then-b-eq37-clause-within
returns-then-b-eq37-clause-within c =
    let k = comment-further c.args.piece.text.now c.eat_gap-p1.result c.if-s-p1.false c.if-b-eq37.true c.comment.ensures.0 in
    (omega arith, omega arith, omega arith)

pub returns-clause-says : goal.returns-clause-says
returns-clause-says c =
    let a = c.args in
    turn-again (file-other a.piece.text.now a.at c.eat_gap-p1.ensures.0 c.if-s-p1.false c.if-b-eq64.false c.if-b-eq37.false c.after.ensures.0).0

pub returns-clause-within : goal.returns-clause-within
returns-clause-within c =
    let a = c.args in
    let k = file-other a.piece.text.now a.at c.eat_gap-p1.ensures.0 c.if-s-p1.false c.if-b-eq64.false c.if-b-eq37.false c.after.ensures.0 in
    (omega arith, omega arith, omega arith)
