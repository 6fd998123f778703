-- `turn::turn::back_control` meets its contract. Assumes nothing.
use Rattle.turn.proofs.ways.TextAnswers.{back-control, grows-control}
use Rattle.turn.proofs.turn.back_control.Goals as goal

pub returns : goal.returns
returns c =
    let a = c.args in
    let p = c.requires in record {
      says_text = back-control a.s.now a.at a.code a.next a.len a.out.now p.0 c.copy-l.result c.copy-k.result _ _ p.1 p.2
          c.copy-k.ensures.lays c.copy-l.ensures.lays;
      grows_text = grows-control a.s.now a.at a.code a.next a.len a.out.now p.0 c.copy-l.result c.copy-k.result
          c.copy-k.ensures.from_value c.copy-l.ensures.from_value;
    }
