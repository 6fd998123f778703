-- The invariants of `lookup::order::Definitions::merge`.
use Rattle.std.proofs.Common.{◌+◌, ◌-◌, length}
use Rattle.row.specs.Numbers.{rows_of}
use Rattle.lookup.specs.Order.{comes}
use Rattle.lookup.proofs.loops.MergeTurns.{Going}
use Rattle.lookup.proofs.order.Definitions.merge.Given as goal

abbrev pub invariant-loop-i : goal.invariant-loop-i
invariant-loop-i l = Going (comes l.self.file.now (rows_of l.self.rows.now)) l.a l.b l.initial.out l.out l.i l.j

abbrev pub decreases-loop-i : goal.decreases-loop-i
decreases-loop-i l = length l.a + length l.b - (l.i + l.j)
