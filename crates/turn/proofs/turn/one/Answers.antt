-- `turn::turn::one` meets its contract. Assumes nothing.
use Rattle.std.proofs.Common.{ℕ, ◌+◌, ◌≤◌, arith, sym, ap, subst, length}
use Rattle.std.specs.Prelude.{Ok}
use Rattle.text.specs.Scan.{part}
use Rattle.command.specs.Execute.{Sane, leading}
use Rattle.command.proofs.stacks.LaysLaws.{lays-as, both_first}
use Rattle.turn.specs.declared.turn.Text.TheVariants as text
use Rattle.command.proofs.ways.ExecuteWays.{meaning-sane}
use Rattle.turn.proofs.ways.CommandAnswers.{one-lays, one-room, one_grows}
use Rattle.turn.proofs.turn.one.Goals as goal

pub execute_command-l-requires : goal.execute_command-l-requires
execute_command-l-requires c =
    let a = c.args in
    let p = c.requires in
    let end = p.0.name in
    let white = p.0.white in
    let to = c.eat-to.ensures.1 in
    let inside : c.eat-to.result ≤ length a.s.now = omega (arith, to.to, p.0.inside) in
    let room = one-room (length a.s.now) a.at a.end a.after c.eat-to.result a.len (length a.out.now)
    c.execute_before-from.result c.copy-e.result
    end white to.from inside p.1.room c.execute_before-from.ensures.a_bound c.copy-e.ensures.from_value in
    let one = c.execute_before-from.auto.out in
    let two = c.copy-e.auto.out in record {
      marks_value = (
        a.tables.all_marks,
        subst Sane (sym c.meaning_of-m.ensures) (meaning-sane (part a.s.now (a.at + 1) a.end)),
        omega (arith, end),
        omega
            (arith, white, p.0.inside),
        omega (arith, one, two, p.1.room, inside, white, to.from),
      );
      at_le_from = (
        omega (arith, c.execute_before-from.ensures.lays.end),
        omega (arith, c.copy-e.ensures.lays.end),
        omega (arith, room.0, one, two),
        omega (arith, room.1, one, two),
        omega (arith, room.2, one, two),
        both_first a.len (leading (part a.s.now (a.at + 1) a.end) c.meaning_of-m.result) a.out.now c.execute_before-from.result
            _ _ c.copy-e.result _ c.execute_before-from.ensures.lays c.copy-e.ensures.lays
            (omega (arith, room.2)) (omega (arith, room.0, one, c.copy-e.ensures.lays.end)) (omega (arith, room.0, one, two)),
      );
    }

pub returns : goal.returns
returns c =
    let a = c.args in
    let p = c.requires in
    let to = c.eat-to.ensures.1 in
    let inside : c.eat-to.result ≤ length a.s.now = omega (arith, to.to, p.0.inside) in
    let room = one-room (length a.s.now) a.at a.end a.after c.eat-to.result a.len (length a.out.now)
    c.execute_before-from.result c.copy-e.result
    p.0.name p.0.white to.from inside p.1.room c.execute_before-from.ensures.a_bound c.copy-e.ensures.from_value in
    let one = c.execute_before-from.auto.out in
    let two = c.copy-e.auto.out in record {
      took = record {
        len = c.execute_command-l.result;
        told = ap (λ (n : ℕ). Ok (text.Put n c.execute_command-l.result)) c.eat-to.ensures.0;
        lays = one-lays (part a.s.now (a.at + 1) a.end) _ a.out.now a.len c.meaning_of-m.result c.execute_before-from.result _
            c.copy-e.result _ c.execute_command-l.result
            _ c.meaning_of-m.ensures c.execute_before-from.ensures.lays
            (lays-as c.execute_before-from.result _ _ _ c.copy-e.result _ (ap (part a.s.now a.after) c.eat-to.ensures.0)
            c.copy-e.ensures.lays)
            (omega (arith, room.2)) (omega (arith, room.0, one, c.copy-e.ensures.lays.end)) (omega (arith, room.0, one, two))
            c.execute_command-l.ensures.lays;
      };
      grows_text = record {
        at = omega (arith, to.from, p.0.name, p.0.white);
        inside = inside;
        text = one_grows a.at a.end a.after c.eat-to.result a.len c.execute_before-from.result c.copy-e.result
            c.execute_command-l.result p.0.name p.0.white to.from
            c.execute_before-from.ensures.a_bound c.copy-e.ensures.from_value c.execute_command-l.ensures.a_bound;
      };
    }
