-- `turn::turn::other` meets its contract. Assumes nothing.
use Rattle.std.proofs.Common.{arith}
use Rattle.turn.proofs.ways.TextAnswers as answers
use Rattle.turn.proofs.turn.other.Goals as goal

pub push-l-requires : goal.push-l-requires
push-l-requires c =
    let a = c.args in
    let p = c.requires in
    let in-text = answers.char-in a.verb a.s.now a.at a.len a.out.now p.4 c.peek.ensures.0 c.in-Some.is in
    omega (arith, p.4, in-text.0, in-text.1)

pub returns-then-is_whitespace : goal.returns-then-is_whitespace
returns-then-is_whitespace c =
    let a = c.args in
    let p = c.requires in
    record {
      wrote = answers.other-white a.verb a.s.now a.at a.len a.out.now p.4 c.peek.ensures.0 c.in-Some.is c.eat_whitespace-after.result
          c.push-l.result _ c.is_whitespace.ensures c.if-is_whitespace.true c.eat_whitespace-after.ensures.0 c.push-l.ensures.lays;
      grows = answers.grows-white a.verb a.s.now a.at a.len a.out.now p.4 c.peek.ensures.0 c.in-Some.is c.eat_whitespace-after.result
          c.push-l.result c.is_whitespace.ensures c.if-is_whitespace.true c.eat_whitespace-after.ensures.0 c.eat_whitespace-after.ensures.1 c.push-l.ensures.value;
    }

pub copy-l-requires : goal.copy-l-requires
copy-l-requires c =
    let a = c.args in
    let p = c.requires in
    let in-text = answers.char-in a.verb a.s.now a.at a.len a.out.now p.4 c.peek.ensures.0 c.in-Some.is in
    (omega (arith, in-text.0), in-text.1, omega (arith, p.4, in-text.0, in-text.1))

pub returns-in-None : goal.returns-in-None
returns-in-None c = record {
  wrote = absurd (answers.not_end c.args.s.now c.args.at c.peek.ensures.0 c.in-None.is c.requires.0);
  grows = absurd (answers.not_end c.args.s.now c.args.at c.peek.ensures.0 c.in-None.is c.requires.0);
}

pub returns-else-is_whitespace : goal.returns-else-is_whitespace
returns-else-is_whitespace c =
    let a = c.args in
    let p = c.requires in record {
      wrote = answers.other-char a.verb a.s.now a.at a.len a.out.now p.4 c.peek.ensures.0 c.in-Some.is
          c.copy-l.result _ p.1 p.2 p.3 c.is_whitespace.ensures c.if-is_whitespace.false c.copy-l.ensures.lays;
      grows = answers.grows-char a.verb a.s.now a.at a.len a.out.now p.4 c.peek.ensures.0 c.in-Some.is
          c.copy-l.result c.copy-l.ensures.from_value;
    }
