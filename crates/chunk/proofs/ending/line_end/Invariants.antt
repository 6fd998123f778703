-- The invariants of `chunk::ending::line_end`.
use Rattle.std.proofs.Common.{◌≤◌, ◌≡◌, true}
use Rattle.text.specs.Scan.{part}
use Rattle.chunk.specs.Inner.{plain}
use Rattle.chunk.proofs.ending.line_end.Given as goal

abbrev pub invariant-loop-i : goal.invariant-loop-i
invariant-loop-i l = (l.from ≤ l.i) × (l.i ≤ l.to) × (plain (part l.t l.from l.i) ≡ true)
