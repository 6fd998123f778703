-- The invariants of `text::scanner::ascii_run`.
use Prim.Native.Nat.{◌-◌, ◌≤◌, max}
use lib.ListN.{length}
use Rattle.text.proofs.scanning.Skip.{Passed}
use Rattle.text.proofs.scanner.ascii_run.Given as goal

abbrev pub invariant-loop-i : goal.invariant-loop-i
invariant-loop-i l = (l.at ≤ l.i) × (l.i ≤ max l.at (length l.s)) × Passed l.low l.high l.want l.s l.at l.i

abbrev pub decreases-loop-i : goal.decreases-loop-i
decreases-loop-i l = length l.s - l.i
