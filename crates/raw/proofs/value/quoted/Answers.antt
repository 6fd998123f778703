-- `raw::value::quoted` meets its contract: a byte, or a backslash with the byte after it, is a turn of `quoted_turn`; a run of bytes is as
-- many turns. Assumes nothing.
use Rattle.std.proofs.Common.{arith}
use Rattle.raw.proofs.ways.ByteTurns.{quoted-closed, quoted-plain}
use Rattle.raw.proofs.ways.BlockLoops.{quoted-clear, quoted-far, quoted-rest}
use Rattle.raw.proofs.value.quoted.Goals as goal

pub returns-in-34 : goal.returns-in-34
returns-in-34 c =
    let turn = c.loop-at in
    quoted-closed turn.invariant (omega (arith, c.has.ensures c.loop-at-test.true)) c.in-34.is

pub loop-at-preserved-in-92 : goal.loop-at-preserved-in-92
loop-at-preserved-in-92 c =
    let turn = c.loop-at in
    quoted-far turn.invariant (omega (arith, c.has.ensures c.loop-at-test.true)) c.in-92.is

pub returns-in-34-s : goal.returns-in-34-s
returns-in-34-s c =
    let h = c.has.ensures c.loop-at-test.true in
    let m = c.in_default.in_default-own.rest in
    quoted-closed (quoted-plain c.loop-at.invariant (omega (arith, h)) m.0.1 m.1) (omega (arith, h)) c.in-34-s.is

pub loop-at-preserved-in-92-s : goal.loop-at-preserved-in-92-s
loop-at-preserved-in-92-s c =
    let h = c.has.ensures c.loop-at-test.true in
    let m = c.in_default.in_default-own.rest in
    quoted-far (quoted-plain c.loop-at.invariant (omega (arith, h)) m.0.1 m.1) (omega (arith, h)) c.in-92-s.is

pub loop-at-preserved : goal.loop-at-preserved
loop-at-preserved c =
    let h = c.has.ensures c.loop-at-test.true in
    let m = c.in_default.in_default-own.rest in
    let n = c.in_default-s.in_default-s-own.rest in
    quoted-clear (quoted-plain (quoted-plain c.loop-at.invariant (omega (arith, h)) m.0.1 m.1) (omega (arith, h)) n.0.1 n.1) (omega (arith, h))
    c.past_quotes-i.ensures

pub returns : goal.returns
returns c = quoted-rest c.loop-at.invariant c.quoted_end.ensures
