-- The invariants of `chunk::ending::last_at`.
use Rattle.std.proofs.Common.{◌≤◌, ◌≡◌}
use Rattle.text.specs.Scan.{part}
use Rattle.chunk.specs.Format.{last_at}
use Rattle.chunk.proofs.ending.last_at.Given as goal

abbrev pub invariant-loop-i : goal.invariant-loop-i
invariant-loop-i l = (l.from ≤ l.i) × (last_at (part l.t l.from l.i) ≡ last_at (part l.t l.from l.to))
