-- The invariants of `whole::file::values`.
use Prim.Native.Nat.{◌+◌, ◌≤◌}
use mathlib.Core.Path.{◌≡◌}
use lib.ListN.{drop}
use Rattle.row.specs.Numbers.{rows_of}
use Rattle.whole.specs.WholeFile.{values}
use Rattle.whole.proofs.file.values.Given as goal

-- the values before row i, and those from it on, are all
abbrev pub invariant-loop-i : goal.invariant-loop-i
invariant-loop-i l = (l.n + values (drop l.i (rows_of l.rows)) ≡ values (rows_of l.rows)) × (l.n ≤ l.i)
