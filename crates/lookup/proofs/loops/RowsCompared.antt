-- Rows compared by their names.
--     name-past    the name past the last row is empty
--     comes-by     row i comes before row j, by how their names stand
-- Assumes nothing.
use Rattle.std.proofs.Common.{ℕ, ◌/◌, ◌≤◌, arith, ◌≡◌, sym, ap, List, length, Ordering}
use Rattle.std.proofs.Math.ListN.{get_or-eq_default}
use Rattle.text.specs.Scan.{part}
use Rattle.row.specs.Row.{Row, row_of}
use Rattle.row.specs.Numbers.{rows_of}
use Rattle.row.proofs.Laid.{laid}
use Rattle.lookup.specs.Names.{name_of, row_no}
use Rattle.lookup.specs.Order.{order_of, comes, comes_by}

pub name-past : (file rows : List ℕ) (i : ℕ) → length rows / 4 ≤ i → part file 0 0 ≡ name_of file (row_no (rows_of rows) i)
name-past file rows i h =
    let k : length (rows_of rows) ≤ i = omega (arith, laid.rows-length rows) in
    sym (ap (name_of file) (get_or-eq_default (rows_of rows) (row_of 0 0 0 0) k))

module _ (file : List ℕ) (rs : List Row) (i j : ℕ) (a b : List ℕ) (p : a ≡ name_of file (row_no rs i)) (q : b ≡ name_of file (row_no rs j)) where
  pub comes-by : (o : Ordering) → o ≡ order_of a b → comes_by o i j ≡ comes file rs i j
  unfolding comes
  comes-by o e = rw (e, p, q)
