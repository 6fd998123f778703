-- The invariants of `text::block::copy`.
use Rattle.std.proofs.Common.{◌+◌, ◌-◌, ◌≤◌, ◌≡◌, length}
use lib.Seq.{sets}
use Rattle.text.specs.Scan.{part}
use Rattle.text.proofs.block.copy.Given as goal

abbrev pub invariant-loop-i : goal.invariant-loop-i
invariant-loop-i l = (l.i ≤ l.n) × (length l.out ≡ length l.initial.out) × (l.out ≡ sets l.initial.out l.at (part l.s l.from (l.from + l.i)))

abbrev pub decreases-loop-i : goal.decreases-loop-i
decreases-loop-i l = l.n - l.i
