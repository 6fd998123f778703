-- The invariants of `lookup::order::gather`.
use Rattle.lookup.proofs.loops.GatherTurns.{Going}
use Rattle.lookup.proofs.order.gather.Given as goal

abbrev pub invariant-loop-i : goal.invariant-loop-i
invariant-loop-i l = Going l.rows l.initial.next l.next l.m l.i
