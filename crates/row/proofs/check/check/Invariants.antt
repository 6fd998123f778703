-- The invariants of `row::check::check`.
use Prim.Native.Nat.{◌%◌, ◌-◌, ◌≤◌}
use mathlib.Core.Path.{◌≡◌}
use lib.ListN.{length}
use Rattle.row.specs.Numbers.{await_of}
use Rattle.row.proofs.rules.CheckTurns.{Left}
use Rattle.row.proofs.check.check.Given as goal

abbrev pub invariant-loop-i : goal.invariant-loop-i
invariant-loop-i l = (length l.rows % 4 ≡ 0) × (l.i % 4 ≡ 0) × (l.i ≤ length l.rows) × Left l.rows (await_of l.state) l.i

abbrev pub decreases-loop-i : goal.decreases-loop-i
decreases-loop-i l = length l.rows - l.i
