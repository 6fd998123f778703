-- `raw::field::FieldTurnsLoop::turn` meets its contract. Assumes nothing.
use Rattle.raw.proofs.contracts.SaysLaws.{turn-done, turn-off, turn-exit}
use Rattle.raw.proofs.ways.FieldWays.{fields-eof, fields-brace, fields-other, fields-end, fields-off, fields-on}
use Rattle.raw.proofs.field.FieldTurnsLoop.turn.Goals.{else-p1-s, then-p1-s+else-s-p1-eq125}
use Rattle.raw.proofs.field.FieldTurnsLoop.turn.Goals as goal

pub returns-then-s-at-clause-says : goal.returns-then-s-at-clause-says
returns-then-s-at-clause-says c = let a = c.args in rw c.fault_at.ensures (turn-off (fields-eof a.self.now.kind a.piece.text.now a.at c.if-s-at.true))

pub returns-then-s-p1-eq125-clause-says : goal.returns-then-s-p1-eq125-clause-says
returns-then-s-p1-eq125-clause-says c =
    let a = c.args in
    turn-done (fields-brace a.self.now.kind a.piece.text.now a.at c.if-s-at.false c.eat_whitespace-p1.ensures.0 c.if-p1-s.true c.if-s-p1-eq125.true)

pub returns-in_err-p2-clause-says : goal.returns-in_err-p2-clause-says
returns-in_err-p2-clause-says c =
    let a = c.args in
    let white = c.eat_whitespace-p1 in
    turn-exit
    (fields-off a.self.now.kind a.piece.text.now a.at white.result
    (elim c.if-p1-s.branch [
      | then-p1-s+else-s-p1-eq125 w ↦ fields-other a.self.now.kind a.piece.text.now a.at c.if-s-at.false white.ensures.0 w.if-p1-s.true w.if-s-p1-eq125.false
      | else-p1-s w ↦ fields-end a.self.now.kind a.piece.text.now a.at c.if-s-at.false white.ensures.0 w.if-p1-s.false
    ])
    c.in_err-p2.ensures.says)
    c.from_residual.result c.from_residual.ensures.1

pub returns-clause-says : goal.returns-clause-says
returns-clause-says c =
    let a = c.args in
    let white = c.eat_whitespace-p1 in
    fields-on a.self.now.kind a.piece.text.now a.at white.result
    (elim c.if-p1-s.branch [
      | then-p1-s+else-s-p1-eq125 w ↦ fields-other a.self.now.kind a.piece.text.now a.at c.if-s-at.false white.ensures.0 w.if-p1-s.true w.if-s-p1-eq125.false
      | else-p1-s w ↦ fields-end a.self.now.kind a.piece.text.now a.at c.if-s-at.false white.ensures.0 w.if-p1-s.false
    ])
    c.in_ok-p2.ensures.says (c.field_end.ensures.says a.piece.base _)
