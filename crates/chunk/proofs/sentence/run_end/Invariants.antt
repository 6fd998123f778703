-- The invariants of `chunk::sentence::run_end`.
use Rattle.std.proofs.Common.{◌-◌, ◌≤◌}
use Rattle.chunk.specs.Inner.{QuietRun}
use Rattle.chunk.proofs.sentence.run_end.Given as goal

abbrev pub invariant-loop-i : goal.invariant-loop-i
invariant-loop-i l = QuietRun l.t l.from l.i × (l.from ≤ l.i) × (l.i ≤ l.to)

abbrev pub decreases-loop-i : goal.decreases-loop-i
decreases-loop-i l = l.to - l.i
