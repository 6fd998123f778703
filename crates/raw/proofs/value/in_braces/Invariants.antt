-- The invariants of `raw::value::in_braces`.
use Rattle.std.proofs.Common.{◌-◌, ◌≤◌, length}
use Rattle.raw.specs.Grammar.{braced_turn}
use Rattle.raw.proofs.ways.ByteLoops.{Reached}
use Rattle.raw.proofs.value.in_braces.Given as goal

abbrev pub invariant-loop-i : goal.invariant-loop-i
invariant-loop-i l = (l.depth ≤ l.i) × Reached braced_turn l.s l.at l.depth l.i

abbrev pub decreases-loop-i : goal.decreases-loop-i
decreases-loop-i l = length l.s - l.i
