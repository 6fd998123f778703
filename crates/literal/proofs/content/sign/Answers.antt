-- `literal::content::sign` meets its contract. Assumes nothing.
use Rattle.std.proofs.lemmas.Result.{err_from_is_err_and}
use Rattle.literal.proofs.ways.StepWays.{ends_at, ends-not, sign-refused, sign-again, ahead-sign, math-ready, math-again, ahead-math}
use Rattle.literal.proofs.content.sign.Goals as goal

pub put_math-requires : goal.put_math-requires
put_math-requires c =
    let a = c.args in
    let ends = ends_at c.in_ok-to.was c.sign_end.ensures in
    let all = math-ready a.place a.verb a.s.now a.st a.out.now a.numbers.now _ _ ends _ _ _ c.turnaround-t.ensures c.if-s-at-eq36.true
    c.requires.0 c.turnaround-t.auto.out in
    record { from_le_to = all.0; fits = all.1 }

pub returns-then-s-at-eq36 : goal.returns-then-s-at-eq36
returns-then-s-at-eq36 c =
    let a = c.args in
    let ends = ends_at c.in_ok-to.was c.sign_end.ensures in record {
      says_sign = math-again a.place a.verb a.s.now a.st a.out.now a.numbers.now _ _ ends _ _ _ c.turnaround-t.ensures
          c.if-s-at-eq36.true _ _ _ c.put_math.ensures;
      ahead_made = ahead-math a.place a.verb a.s.now a.st a.out.now a.numbers.now _ _ ends _ _ _ c.turnaround-t.ensures
          c.if-s-at-eq36.true _ _ _ c.put_math.ensures;
    }

pub returns : goal.returns
returns c =
    let a = c.args in
    let ends = ends_at c.in_ok-to.was c.sign_end.ensures in record {
      says_sign = sign-again a.place a.verb a.s.now a.st a.out.now a.numbers.now _ _ ends _ _ _ c.turnaround-t.ensures c.if-s-at-eq36.false;
      ahead_made = ahead-sign a.place a.verb a.s.now a.st a.out.now a.numbers.now _ _ ends _ _ _ c.turnaround-t.ensures;
    }

pub returns-in_err-to : goal.returns-in_err-to
returns-in_err-to c =
    let a = c.args in
    let ends = ends-not a.verb a.s.now a.st.at a.st.braces c.in_err-to.was c.sign_end.ensures in
    let e = err_from_is_err_and c.from_residual.result c.from_residual.ensures.1 in
    rw (e.1, e.2)
    (record { says_sign = sign-refused a.place a.verb a.s.now a.st a.out.now a.numbers.now _ ends.0; ahead_made = ends.1 })
