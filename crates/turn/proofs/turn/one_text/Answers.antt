-- `turn::turn::one_text` meets its contract. Assumes nothing.
use Rattle.std.proofs.Common.{sym, false, get_or}
use Rattle.turn.proofs.ways.TextTurns.{wrote_as}
use Rattle.turn.proofs.ways.CommandAnswers.{sign-tests, no_sign}
use Rattle.turn.proofs.turn.one_text.Goals as goal

pub returns-then-s-at : goal.returns-then-s-at
returns-then-s-at c =
    let a = c.args in
    let is = sign-tests 0x2D (get_or a.s.now a.at 0) a.verb c.if-s-at.true in record {
      wrote = wrote_as false a.verb a.s.now a.at a.len a.out.now c.hyphens.result.at c.hyphens.result.len _ (sym is.1) c.hyphens.ensures.wrote;
      grows = c.hyphens.ensures.grows;
    }

pub other-requires : goal.other-requires
other-requires c = (c.requires.0, c.requires.1, c.requires.2, no_sign 0x2D _ c.args.verb c.if-s-at.false, c.requires.3)
