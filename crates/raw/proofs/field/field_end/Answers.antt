-- `raw::field::field_end` meets its contract. Assumes nothing.
use Rattle.std.proofs.Common.{arith}
use Rattle.raw.proofs.contracts.SaysLaws.{turn-done, turn-again, turn-off}
use Rattle.raw.proofs.ways.FieldWays.{end-end, end-here, end-comma, end-brace, end-off}
use Rattle.raw.proofs.field.field_end.Goals.{else-p1-s, then-p1-s+else-b-eq44+else-b-eq125}
use Rattle.raw.proofs.field.field_end.Goals as goal

pub returns-then-s-at-eq44 : goal.returns-then-s-at-eq44
returns-then-s-at-eq44 c =
    let a = c.args in
    record {
      says = λ base b. turn-again (end-here a.s.now a.at c.if-at-s.true c.if-s-at-eq44.true c.eat_whitespace-p2.ensures.0 c.comment-p3.ensures.0);
      within = (omega arith, omega arith, omega arith);
    }

pub returns-then-b-eq44 : goal.returns-then-b-eq44
returns-then-b-eq44 c =
    let a = c.args in
    record {
      says = λ base b. turn-again
          (end-comma a.s.now a.at c.eat_whitespace-p1.ensures.0 c.if-p1-s.true c.if-b-eq44.true
          c.eat_whitespace-p2-then-b-eq44.ensures.0 c.comment-p3-then-b-eq44.ensures.0);
      within = (omega arith, omega arith, omega arith);
    }

pub returns-then-b-eq125 : goal.returns-then-b-eq125
returns-then-b-eq125 c =
    let a = c.args in
    record {
      says = λ base b. turn-done (end-brace a.s.now a.at c.eat_whitespace-p1.ensures.0 c.if-p1-s.true c.if-b-eq44.false c.if-b-eq125.true);
      within = (omega arith, omega arith, omega arith);
    }

pub returns : goal.returns
returns c =
    let a = c.args in
    let blank = c.eat_whitespace-p1.ensures.0 in
    record {
      says = λ base b. rw c.fault_at.ensures (elim c.if-p1-s.branch [
        | then-p1-s+else-b-eq44+else-b-eq125 w ↦ turn-off (end-off a.s.now a.at blank w.if-p1-s.true w.if-b-eq44.false w.if-b-eq125.false)
        | else-p1-s w ↦ turn-off (end-end a.s.now a.at blank w.if-p1-s.false)
      ]);
      within = tt;
    }
