-- `literal::content::sign_end` meets its contract. Assumes nothing.
use Rattle.std.proofs.Common.{arith, get_or}
use Rattle.turn.proofs.Turning.{turning}
use Rattle.literal.proofs.ways.StepWays.{end-open, end-close, close-refused, end-math, math-refused}
use Rattle.literal.proofs.content.sign_end.Goals as goal

pub returns-then-b-eq123 : goal.returns-then-b-eq123
returns-then-b-eq123 c =
    let a = c.args in
    end-open a.verb a.s.now a.at a.braces c.requires.1 c.if-b-eq123.true

pub returns-then-s-to : goal.returns-then-s-to
returns-then-s-to c =
    let a = c.args in
    let p = c.requires in
    let plain = turning.sign-dollar a.verb (get_or a.s.now a.at 0) p.0 c.if-b-eq36.true in
    rw c.fault_at.ensures (
      math-refused a.verb a.s.now a.at a.braces p.1 c.if-b-eq36.true plain _ c.eat_until-to.ensures.0 c.if-s-to.true,
      (omega (arith, c.eat_until-to.ensures.1.to, p.1), omega (arith, c.eat_until-to.ensures.1.to, p.1)),
    )

pub returns-then-b-eq36 : goal.returns-then-b-eq36
returns-then-b-eq36 c =
    let a = c.args in
    let p = c.requires in
    let plain = turning.sign-dollar a.verb (get_or a.s.now a.at 0) p.0 c.if-b-eq36.true in
    end-math a.verb a.s.now a.at a.braces p.1 c.if-b-eq36.true plain _ c.eat_until-to.ensures.0 c.eat_until-to.ensures.1.from
    c.if-s-to.false

pub returns-then-braces-eq0 : goal.returns-then-braces-eq0
returns-then-braces-eq0 c =
    let a = c.args in
    let p = c.requires in
    let closes = turning.sign-closing a.verb (get_or a.s.now a.at 0) p.0 c.if-b-eq123.false c.if-b-eq36.false in (
      close-refused a.verb a.s.now a.at a.braces p.1 closes c.if-braces-eq0.true,
      (omega (arith, p.1), omega (arith, p.1)),
    )

pub returns : goal.returns
returns c =
    let a = c.args in
    let p = c.requires in
    let closes = turning.sign-closing a.verb (get_or a.s.now a.at 0) p.0 c.if-b-eq123.false c.if-b-eq36.false in
    end-close a.verb a.s.now a.at a.braces p.1 closes c.if-braces-eq0.false
