-- `turn::turn::command` meets its contract. Assumes nothing.
use Rattle.std.proofs.Common.{ℕ, ◌+◌, arith, ap, subst, length}
use Rattle.std.proofs.lemmas.Result.{err_from_is_err_and}
use Rattle.turn.specs.Turns.{EndInside}
use Rattle.turn.proofs.ways.CommandAnswers.{command-one, command-bare, brace-inside, brace-next, command-argument, command-endless, ends_by}
use Rattle.turn.proofs.turn.command.Goals as goal

pub returns-then-takes_one : goal.returns-then-takes_one
returns-then-takes_one c =
    let a = c.args in
    let p = c.requires in record {
      says_text = command-one a.s.now a.at a.code a.next a.len a.out.now p.0 p.1 c.name_end-end.result
          c.eat_whitespace-after.result c.name_end-end.ensures.0
          c.eat_whitespace-after.ensures.0 c.takes_one.result c.takes_one.ensures c.if-takes_one.true c.one.result _
          c.one.ensures.took;
      grows_text = c.one.ensures.grows_text;
    }

pub returns-then-not-end-after : goal.returns-then-not-end-after
returns-then-not-end-after c =
    let a = c.args in
    let p = c.requires in record {
      says_text = command-bare a.s.now a.at a.code a.next a.len a.out.now p.0 p.1 c.name_end-end.result
          c.eat_whitespace-after.result c.name_end-end.ensures.0
          c.eat_whitespace-after.ensures.0 c.takes_one.result c.takes_one.ensures c.if-takes_one.false c.opens_at.result
          c.opens_at.ensures c.if-not-end-after.true c.bare.result _ c.bare.ensures.took;
      grows_text = c.bare.ensures.grows_text;
    }

pub argument_end-requires : goal.argument_end-requires
argument_end-requires c =
    let a = c.args in
    let p = c.requires in
    brace-inside a.s.now a.at a.code a.next a.len a.out.now p.0 p.1 c.name_end-end.result c.eat_whitespace-after.result
    c.name_end-end.ensures.0
    c.eat_whitespace-after.ensures.0 c.takes_one.result c.takes_one.ensures c.if-takes_one.false c.opens_at.result
    c.opens_at.ensures c.if-not-end-after.false

pub returns-in_err-to : goal.returns-in_err-to
returns-in_err-to c =
    let a = c.args in
    let p = c.requires in
    let e = err_from_is_err_and c.from_residual.result c.from_residual.ensures.1 in
    rw (e.1, e.2) (record {
      says_text = command-endless a.s.now a.at a.code a.next a.len a.out.now p.0 p.1 c.name_end-end.result
          c.eat_whitespace-after.result c.name_end-end.ensures.0
          c.eat_whitespace-after.ensures.0 c.takes_one.result c.takes_one.ensures c.if-takes_one.false c.opens_at.result
          c.opens_at.ensures c.if-not-end-after.false c.argument_end.result _ c.argument_end.ensures.value c.in_err-to.was;
      grows_text = subst (EndInside (length a.s.now) (c.eat_whitespace-after.result + 1)) c.in_err-to.was c.argument_end.ensures.end_inside;
    })

pub returns : goal.returns
returns c =
    let a = c.args in
    let p = c.requires in
    let brace = c.if-not-end-after.false in
    let in-text = ends_by (length a.s.now) (c.eat_whitespace-after.result + 1) c.argument_end.result _ c.in_ok-to.was
    c.argument_end.ensures.end_inside in record {
      says_text = command-argument a.s.now a.at a.code a.next a.len a.out.now p.0 p.1 c.name_end-end.result
          c.eat_whitespace-after.result c.name_end-end.ensures.0
          c.eat_whitespace-after.ensures.0 c.takes_one.result c.takes_one.ensures c.if-takes_one.false c.opens_at.result
          c.opens_at.ensures brace c.meaning_of-m.result c.argument_end.result _ c.meaning_of-m.ensures
          c.argument_end.ensures.value c.in_ok-to.was;
      grows_text = (
        omega (arith, c.name_end-end.ensures.1.from, p.0.from),
        ap (λ (n : ℕ). n + 1) (brace-next a.s.now a.at a.code a.next a.len a.out.now p.0 p.1 c.name_end-end.result
            c.eat_whitespace-after.result
            c.name_end-end.ensures.0 c.eat_whitespace-after.ensures.0 c.takes_one.result c.takes_one.ensures c.if-takes_one.false
            c.opens_at.result c.opens_at.ensures brace),
        in-text.0,
        in-text.1,
      );
    }
