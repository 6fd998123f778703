-- `turn::turn::back_blank` meets its contract. Assumes nothing.
use Rattle.turn.proofs.ways.TextAnswers.{back-blank, grows-blank}
use Rattle.turn.proofs.turn.back_blank.Goals as goal

pub returns : goal.returns
returns c =
    let a = c.args in
    let p = c.requires in
    record {
      says_text = back-blank a.s.now a.at a.code a.next a.len a.out.now p.0 c.eat_whitespace-after.result c.push-l.result c.copy-k.result _ _
          p.1 c.eat_whitespace-after.ensures.0 c.copy-k.ensures.lays c.push-l.ensures.lays;
      grows_text = grows-blank a.s.now a.at a.code a.next a.len a.out.now p.0 c.eat_whitespace-after.result c.push-l.result c.copy-k.result p.1
          c.eat_whitespace-after.ensures.0 c.eat_whitespace-after.ensures.1 c.copy-k.ensures.from_value c.push-l.ensures.value;
    }
