-- `lookup::order::gather` meets its contract. Assumes nothing.
use Rattle.std.proofs.Common.{refl, arith}
use Rattle.lookup.proofs.loops.GatherTurns.{gather_none, going-in, going-not, going-ends}
use Rattle.lookup.proofs.order.gather.Goals as goal
use Rattle.lookup.proofs.order.gather.Goals.{then-rows-i-eq-DEFINITION_NAME, else-rows-i-eq-DEFINITION_NAME}

pub loop-i-init : goal.loop-i-init
loop-i-init c = (refl, omega arith, omega arith, gather_none c.args.rows.now c.args.next.now)

pub loop-i-preserved : goal.loop-i-preserved
loop-i-preserved c =
    let l = c.loop-i in
    let a = c.args in
    let j = c.if-rows-i-eq-DEFINITION_NAME in
    elim j.branch [
      | then-rows-i-eq-DEFINITION_NAME w ↦ going-in a.rows.now a.next.now l.next l.m l.i c.requires.0 l.invariant j.next j.m (omega arith)
          w.if-rows-i-eq-DEFINITION_NAME.true w.next-is w.m-is
      | else-rows-i-eq-DEFINITION_NAME w ↦ going-not a.rows.now a.next.now l.next l.m l.i c.requires.0 l.invariant j.next j.m (omega arith)
          w.if-rows-i-eq-DEFINITION_NAME.false w.next-is w.m-is
    ]

pub returns : goal.returns
returns c =
    let l = c.loop-i in
    let a = c.args in
    going-ends a.rows.now a.next.now l.next l.m l.i c.requires.0 l.invariant (omega arith)
