-- `raw::value::number` meets its contract: each byte is a turn of `number_turn`. Assumes nothing.
use Rattle.std.proofs.Common.{◌≡◌, ◌∙◌, arith}
use Rattle.raw.proofs.ways.ByteLoops.{reached}
use Rattle.raw.proofs.ways.ByteTurns.{number-end, number-digit, number-point, number-again, number-done}
use Rattle.raw.proofs.value.number.Goals as goal

pub loop-i-init : goal.loop-i-init
loop-i-init c = reached

pub loop-i-preserved-then-b : goal.loop-i-preserved-then-b
loop-i-preserved-then-b c = let l = c.loop-i in number-digit l.dot l.invariant c.loop-i-test.true c.if-b.true

pub returns-then-b-ne46 : goal.returns-then-b-ne46
returns-then-b-ne46 c = let l = c.loop-i in number-done l.dot l.invariant c.loop-i-test.true c.if-b.false c.if-b-ne46.true

pub returns-then-dot : goal.returns-then-dot
returns-then-dot c = rw c.fault_at.ensures (number-again c.loop-i-test.true c.if-b-ne46.false c.loop-i.dot c.loop-i.invariant c.if-dot.true)

pub loop-i-preserved : goal.loop-i-preserved
loop-i-preserved c = number-point c.loop-i-test.true c.if-b-ne46.false c.loop-i.dot c.loop-i.invariant c.if-dot.false

pub returns : goal.returns
returns c =
    let l = c.loop-i in
    let e : c.max.result ≡ l.i = c.max.ensures ∙ omega (arith, c.loop-i-test.false, l.auto.i, l.auto.i-end) in
    rw (c.fault_at-2.ensures, e) (number-end l.dot l.invariant c.loop-i-test.false)
