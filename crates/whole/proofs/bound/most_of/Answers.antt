-- `whole::bound::most_of` meets its contract. Assumes nothing.
use Rattle.std.proofs.Common.{◌+◌, ◌*◌, arith}
use Rattle.whole.proofs.counting.AtMost.{summed_one, summed-end, none-of, sums}
use Rattle.whole.proofs.bound.most_of.Goals as goal

pub returns : goal.returns
returns c =
    let l = c.loop-e in
    let a = c.args in (
      summed-end a.name a.rows.now a.i l.n l.m l.at l.invariant.0 c.element_at.result c.element_at.ensures (none-of _ c.in_default.not-Some),
      (l.invariant.1, l.invariant.2),
    )

pub loop-e-smaller : goal.loop-e-smaller
loop-e-smaller c =
    let l = c.loop-e in
    let a = c.args in
    let on = summed_one a.name a.rows.now (a.i * 4 + 4) l.n l.m l.at l.invariant.0 c.element_at.result c.element_at.ensures c.in-Some.e c.in-Some.is
    c.in_ok-one.one _ c.in_ok-one.was c.most_of_element.ensures.most in
    omega (arith, on.1)

pub loop-e-preserved : goal.loop-e-preserved
loop-e-preserved c =
    let l = c.loop-e in
    let a = c.args in
    let on = summed_one a.name a.rows.now (a.i * 4 + 4) l.n l.m l.at l.invariant.0 c.element_at.result c.element_at.ensures c.in-Some.e c.in-Some.is
    c.in_ok-one.one _ c.in_ok-one.was c.most_of_element.ensures.most in
    let few = sums (l.n + c.in_ok-one.one.rows) (l.m + c.in_ok-one.one.bytes) c.if-n-m.false in
    (on.0, few.0, few.1, omega (arith, on.1))
