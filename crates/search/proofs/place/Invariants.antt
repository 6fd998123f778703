-- The invariants of `search::place`.
use Rattle.std.proofs.Common.{◌≡◌, ◌/◌, ◌-◌, ◌≤◌, length}
use Rattle.search.specs.Halving.{is_low, between, place_of}
use Rattle.search.proofs.place.Given as goal

abbrev pub invariant-loop-lo : goal.invariant-loop-lo
invariant-loop-lo l = (l.lo ≤ l.hi) × (l.hi ≤ length l.t / l.width) × (between (is_low l.width l.t l.a l.b) l.lo l.hi ≡ place_of l.width l.t l.a l.b)

abbrev pub decreases-loop-lo : goal.decreases-loop-lo
decreases-loop-lo l = l.hi - l.lo
