-- The invariants of `whole::bound::most_of`.
use Prim.Native.Nat.{◌+◌, ◌-◌, ◌*◌, ◌≤◌}
use lib.ListN.{length}
use Rattle.literal.specs.Rows.{most_number}
use Rattle.whole.proofs.counting.AtMost.{Summed}
use Rattle.whole.proofs.bound.most_of.Given as goal

-- the elements before number `at` are summed up
abbrev pub invariant-loop-e : goal.invariant-loop-e
invariant-loop-e l = Summed l.name l.rows (l.i * 4 + 4) l.n l.m l.at × (l.n ≤ most_number) × (l.m ≤ most_number) × (l.at ≤ length l.rows + 4)

abbrev pub decreases-loop-e : goal.decreases-loop-e
decreases-loop-e l = length l.rows - l.at
