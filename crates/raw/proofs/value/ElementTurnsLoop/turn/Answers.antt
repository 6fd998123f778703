-- `raw::value::ElementTurnsLoop::turn` meets its contract. Assumes nothing.
use Rattle.text.specs.Class.{holds_of}
use Rattle.raw.proofs.contracts.SaysLaws.{turn-exit}
use Rattle.raw.proofs.ways.ElementWays.{element-off, turn_last, turn-hash, turn-comma, turn-joined}
use Rattle.raw.proofs.value.ElementTurnsLoop.turn.Goals as goal

pub returns-in_err-p1-clause-says : goal.returns-in_err-p1-clause-says
returns-in_err-p1-clause-says c =
    let a = c.args in
    turn-exit (element-off a.piece.text.now a.at c.in_err-p1.ensures.says) c.from_residual.result c.from_residual.ensures.1

pub returns-then-b-eq44-clause-says : goal.returns-then-b-eq44-clause-says
returns-then-b-eq44-clause-says c = let a = c.args in turn-comma a.piece.text.now a.at c.in_ok-p1.ensures.says c.if-p1-s.true c.if-b-eq44.true

pub returns-then-b-eq35-clause-says : goal.returns-then-b-eq35-clause-says
returns-then-b-eq35-clause-says c =
    let a = c.args in
    turn-joined a.piece.text.now a.at c.in_ok-p1.ensures.says c.if-p1-s.true c.if-b-eq35.true c.eat_whitespace-next.ensures.0

pub returns-then-p3-p2-clause-says : goal.returns-then-p3-p2-clause-says
unfolding holds_of
returns-then-p3-p2-clause-says c =
    let a = c.args in
    turn_last a.piece.text.now a.at c.in_ok-p1.ensures.says c.eat_whitespace-p2.ensures.0 c.eat_byte-p3.ensures.0 c.if-p3-p2.true

pub returns-clause-says : goal.returns-clause-says
unfolding holds_of
returns-clause-says c =
    let a = c.args in
    turn-hash a.piece.text.now a.at c.in_ok-p1.ensures.says c.eat_whitespace-p2.ensures.0 c.eat_byte-p3.ensures.0 c.if-p3-p2.false
    c.eat_whitespace-p4.ensures.0
