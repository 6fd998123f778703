-- `turn::turn::text_at` meets its contract. Assumes nothing.
use Rattle.std.proofs.Common.{arith, refl, length}
use Rattle.turn.proofs.contents.TurnsSeen.{ended}
use Rattle.turn.proofs.ways.TextTurns.{put-so, put-says, put-grows, wrote_on, grows-on}
use Rattle.turn.proofs.ways.CommandAnswers.{grows_some}
use Rattle.turn.proofs.turn.text_at.Goals as goal

pub returns-then-s-at : goal.returns-then-s-at
returns-then-s-at c =
    let a = c.args in
    record { says_text = (λ argument d. ended argument a.verb d a.s.now a.at c.if-s-at.true, refl); grows_text = tt }

pub texts-t-requires : goal.texts-t-requires
texts-t-requires c =
    let g = put-grows (length c.args.s.now) c.args.at c.args.len (put-so c.in_ok-text.was c.in-Put.is) c.backslash.ensures.grows_text in
    (g.inside, omega (arith, g.text, c.requires.1.room, c.backslash.auto.out))

pub returns-then-s-at-eq92 : goal.returns-then-s-at-eq92
returns-then-s-at-eq92 c =
    let a = c.args in record {
      says_text = wrote_on a.verb a.s.now a.at a.len a.out.now _ _ _ c.texts-t.result.at c.texts-t.result.len _
          (put-says a.verb a.s.now a.at a.len a.out.now _ (put-so c.in_ok-text.was c.in-Put.is) c.backslash.ensures.says_text)
          c.texts-t.ensures.wrote;
      grows_text = grows-on (length a.s.now) 1 0 a.at a.len _ _ c.texts-t.result.at c.texts-t.result.len
          (put-grows (length a.s.now) a.at a.len (put-so c.in_ok-text.was c.in-Put.is) c.backslash.ensures.grows_text) c.texts-t.ensures.grows;
    }

pub returns : goal.returns
returns c =
    let inside = c.if-s-at.false in
    let a = c.args in record {
      says_text = c.texts-t-2.ensures.wrote;
      grows_text = grows_some a.verb a.s.now a.at a.len c.texts-t-2.result.at c.texts-t-2.result.len c.texts-t-2.ensures.grows c.texts-t-2.ensures.at_value
          inside c.requires.0 c.if-s-at-eq92.false;
    }
