-- What falls in `Resolver::value` and `name` is twice the names left to open, and one more for `value`.
use Rattle.std.specs.Prelude.{Result}
use Rattle.row.specs.declared.fault.Fault.{Fault}
use Rattle.resolve.specs.declared.progress.Progress.{Progress}
use Prim.Native.Nat.{ℕ, ◌+◌, ◌-◌, ◌*◌, ◌≤◌}
use mathlib.Core.Path.{◌≡◌}
use mathlib.Core.Bool.{true}
use mathlib.Core.List.{List}
use lib.ListN.{length, take, drop}
use Rattle.row.specs.Numbers.{rows_of}
use Rattle.row.specs.Limits.{most_open}
use Rattle.resolve.specs.Checks.{every_span}
use Rattle.resolve.specs.Progress.{Bounded, SaysRun}
use Rattle.values.specs.Uses.{value_from, lent_in}
use Rattle.values.proofs.resolver.Resolver.+name_value.Given as goal

abbrev pub decreases-name : goal.decreases-name
decreases-name l = 2 * l.left

abbrev pub decreases-value : goal.decreases-value
decreases-value l = 2 * l.left + 1

-- an answer that is right for the elements from here on is right for all of them
abbrev pub invariant-value-loop-e : goal.invariant-value-loop-e
invariant-value-loop-e l =
    (length l.path ≡ length l.initial.path) × (length l.scratch ≡ length l.initial.scratch) × (length l.chunks ≡ length l.initial.chunks)
    × (length l.text ≡ length l.initial.text)
    × (l.i ≤ length l.self.rows.now + 8) × Bounded l.st × (every_span l.self.file.now (rows_of (drop l.i l.self.rows.now)) ≡ true)
    × (take (most_open - l.left) l.path ≡ take (most_open - l.left) l.initial.path)
    × ((r : Result Progress Fault) (b t : List ℕ)
    → SaysRun
    (value_from (lent_in l.self) l.verb l.left (take (most_open - l.left) l.initial.path) (rows_of (drop l.i l.self.rows.now)) l.st.names)
    l.st l.chunks l.text r b t
    → SaysRun
    (value_from (lent_in l.self) l.verb l.left (take (most_open - l.left) l.initial.path) (rows_of (drop l.at l.self.rows.now)) l.initial.st.names)
    l.initial.st l.initial.chunks l.initial.text r b t)

abbrev pub decreases-value-loop-e : goal.decreases-value-loop-e
decreases-value-loop-e l = length l.self.rows.now + 8 - l.i
