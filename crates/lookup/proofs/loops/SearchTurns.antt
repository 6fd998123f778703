-- The search among the definitions in order: what `search` ends in, by how many of them have names that do not come behind the wanted one.
--     search-parted                 they come before all others
--     search-none, search-inside    there is no such row; the last of them is one of the file
--     search-found                  that row defines the wanted name, or no row does
-- Assumes nothing.
use Rattle.std.proofs.Common.{◌≡◌, ℕ, ◌+◌, ◌-◌, ◌/◌, ◌≤◌, ◌<◌, Bool, true, false, List, length, get_or, None, sym, arith}
use Rattle.std.specs.Bool.{then_some}
use Rattle.std.specs.List.Sorted.{IsPartitionedBy}
use Rattle.row.specs.Numbers.{rows_of}
use Rattle.row.proofs.Laid.{laid}
use Rattle.lookup.specs.Names.{row_no, is_named, last_named}
use Rattle.lookup.specs.Order.{in_order}
use Rattle.lookup.proofs.sorting.InOrder.{not_after, parted, Split, split-none, split-other, split-row, split-inside}

module _ (file rows wanted o : List ℕ) (pre : (o ≡ in_order file (rows_of rows)) × (length rows / 4 ≤ 2147483647)) where
  few : length (rows_of rows) ≤ 2147483647
  few = omega (arith, laid.rows-length rows, pre.1)

  pub search-parted : IsPartitionedBy (not_after file (rows_of rows) wanted) o
  search-parted = parted file (rows_of rows) wanted o pre.0 few

module _ (file rows wanted o : List ℕ) (pre : (o ≡ in_order file (rows_of rows)) × (length rows / 4 ≤ 2147483647)) (lo : ℕ)
    (s : Split file (rows_of rows) wanted o lo) where
  pub search-none : lo ≡ 0 → None ≡ last_named file wanted (rows_of rows)
  search-none z = split-none file (rows_of rows) wanted o pre.0 (few file rows wanted o pre) lo s z

  module _ (last : ℕ) (e : lo ≡ last + 1) where
    before : lo - 1 ≡ last
    before = omega arith

    pub search-inside : get_or o last 0 < length rows / 4
    search-inside = omega (arith, laid.rows-length rows, rw before at (split-inside file (rows_of rows) wanted o pre.0 (few file rows wanted o pre) lo s (omega arith)))

    pub search-found : (t : Bool) → t ≡ is_named file wanted (row_no (rows_of rows) (get_or o last 0)) →
        then_some t (get_or o last 0) ≡ last_named file wanted (rows_of rows)
    search-found true h = rw (← before) (split-row file (rows_of rows) wanted o pre.0 (few file rows wanted o pre) lo s (omega arith) (rw (← before) at (sym h)))
    search-found false h = split-other file (rows_of rows) wanted o pre.0 (few file rows wanted o pre) lo s (omega arith) (rw before (sym h))
