-- `raw::value::quoted_end` meets its contract: a byte is a turn of `quoted_turn`, over a character or an octet of one. Assumes nothing.
use Rattle.raw.proofs.ways.ByteTurns.{quoted-end, quoted-closed, quoted-cut, quoted-escape, quoted-plain}
use Rattle.raw.proofs.value.quoted_end.Goals as goal

pub returns-in-34 : goal.returns-in-34
returns-in-34 c = quoted-closed c.loop-i.invariant c.loop-i-test.true c.in-34.is

pub loop-i-preserved-then-i-s : goal.loop-i-preserved-then-i-s
loop-i-preserved-then-i-s c =
    let turn = c.loop-i in
    let test = c.loop-i-test in
    quoted-escape turn.invariant test.true c.in-92.is c.if-i-s.true

pub loop-i-preserved-else-i-s : goal.loop-i-preserved-else-i-s
loop-i-preserved-else-i-s c =
    let turn = c.loop-i in
    let test = c.loop-i-test in
    quoted-cut turn.invariant test.true c.in-92.is c.if-i-s.false

pub loop-i-preserved : goal.loop-i-preserved
loop-i-preserved c = quoted-plain c.loop-i.invariant c.loop-i-test.true c.in_default.in_default-own.rest.0.1 c.in_default.in_default-own.rest.1

pub returns : goal.returns
returns c = rw c.fault_at.ensures (quoted-end c.loop-i.invariant c.loop-i-test.false)
