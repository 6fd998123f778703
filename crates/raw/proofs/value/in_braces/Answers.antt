-- `raw::value::in_braces` meets its contract: a byte is a turn of `braced_turn`, over a character or an octet of one; a run of plain bytes
-- is as many turns. Assumes nothing.
use Rattle.std.proofs.Common.{arith}
use Rattle.raw.proofs.ways.ByteTurns.{braces-end, braces-open, braces-close, braces-closed, braces-plain}
use Rattle.raw.proofs.ways.BlockLoops.{braces-clear, braces-far, braces-eof}
use Rattle.raw.proofs.value.in_braces.Goals as goal

pub loop-i-preserved-in-123 : goal.loop-i-preserved-in-123
loop-i-preserved-in-123 c = (omega arith, braces-open c.loop-i.invariant.1 c.loop-i-test.true c.in-123.is)

pub returns-then-depth-eq0 : goal.returns-then-depth-eq0
returns-then-depth-eq0 c =
    let turn = c.loop-i in
    let test = c.loop-i-test in
    braces-closed turn.invariant.1 test.true c.in-125.is c.if-depth-eq0.true

pub loop-i-preserved-in-125 : goal.loop-i-preserved-in-125
loop-i-preserved-in-125 c =
    let turn = c.loop-i in
    let test = c.loop-i-test in
    (omega arith, braces-close turn.invariant.1 test.true c.in-125.is c.if-depth-eq0.false)

pub returns-then-s-i-lt2 : goal.returns-then-s-i-lt2
returns-then-s-i-lt2 c = rw c.fault_at.ensures (braces-eof c.loop-i.invariant.1 c.loop-i-test.true c.in-92.is (omega arith))

pub loop-i-preserved-in-92 : goal.loop-i-preserved-in-92
loop-i-preserved-in-92 c =
    let turn = c.loop-i in
    let test = c.loop-i-test in
    (omega arith, braces-far turn.invariant.1 test.true c.in-92.is (omega arith))

pub loop-i-preserved : goal.loop-i-preserved
loop-i-preserved c =
    let turn = c.loop-i in
    let test = c.loop-i-test in
    let matched = c.in_default.in_default-own in
    let x = c.past_braces-i.ensures in
    let other = matched.rest in
    let plain = braces-plain turn.invariant.1 test.true other.0.0.1 other.0.1 other.1 in
    (omega (arith, x.from), braces-clear plain (omega arith) x)

pub returns : goal.returns
returns c = rw c.fault_at-2.ensures (braces-end c.loop-i.invariant.1 c.loop-i-test.false)
