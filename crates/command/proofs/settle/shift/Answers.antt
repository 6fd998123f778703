-- `command::settle::shift` meets its contract. Assumes nothing.
use Rattle.std.proofs.Common.{arith, refl}
use Rattle.command.proofs.ways.SettleWays as laws
use Rattle.command.proofs.settle.shift.Goals as goal

pub returns-then-at-from : goal.returns-then-at-from
returns-then-at-from c =
    let a = c.args in
    let p = c.requires in
    record { lays = laws.stays_at a.t.now a.from a.to a.at c.if-at-from.true p.1 p.2; t_unchanged = refl }

pub loop-k-preserved : goal.loop-k-preserved
loop-k-preserved c = let a = c.args in let p = c.requires in laws.moved a.t.now a.from a.at _ c.loop-k.k c.loop-k.invariant p.0 (omega (arith, c.loop-k-test.true, p.2))
