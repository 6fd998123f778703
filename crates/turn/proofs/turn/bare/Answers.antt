-- `turn::turn::bare` meets its contract. Assumes nothing.
use Rattle.std.proofs.Common.{◌+◌, arith, refl, sym, subst}
use Rattle.text.specs.Scan.{part}
use Rattle.command.specs.Execute.{Sane}
use Rattle.command.proofs.ways.ExecuteWays.{meaning-sane}
use Rattle.turn.proofs.ways.CommandAnswers.{bare-lays}
use Rattle.turn.proofs.turn.bare.Goals as goal

pub execute_bare-l-requires : goal.execute_bare-l-requires
execute_bare-l-requires c =
    let a = c.args in
    let p = c.requires in (
      subst Sane (sym c.meaning_of-m.ensures) (meaning-sane (part a.s.now (a.at + 1) a.end)),
      omega (arith, p.0.name),
      omega
          (arith, p.0.white, p.0.inside),
      omega (arith, p.0.name, p.0.white, p.0.inside, p.1.room),
    )

pub returns : goal.returns
returns c =
    let a = c.args in
    let p = c.requires in record {
      took = record {
        len = c.execute_bare-l.result;
        told = refl;
        lays = bare-lays (part a.s.now (a.at + 1) a.end) a.out.now a.len c.meaning_of-m.result c.execute_bare-l.result _
            c.meaning_of-m.ensures c.execute_bare-l.ensures.lays;
      };
      grows_text = record {
        at = omega (arith, p.0.name, p.0.white);
        inside = p.0.inside;
        text = omega (arith, p.0.name, p.0.white, c.execute_bare-l.ensures.a_bound);
      };
    }
