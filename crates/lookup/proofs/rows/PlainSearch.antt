-- The search from the last row to the first.
--     Left                                          nothing is found among the rows from row i on
--     plain-starts, plain-hit, plain-on             the ways through `plain::find`
-- Assumes nothing.
use Rattle.std.proofs.Common.{ℕ, suc, ◌/◌, ◌≤◌, arith, ◌≡◌, sym, true, false, List, length, drop, drop_of_length-le, Some, None}
use Rattle.row.specs.Numbers.{rows_of}
use Rattle.row.proofs.Laid.{laid}
use Rattle.lookup.specs.Names.{is_named, last_named, row_no}
use Rattle.lookup.proofs.rows.LastDefinition.{none_more, last-is}

pub record Left (file name rows : List ℕ) (i : ℕ) : Type 0 where
  pub most : i ≤ length rows / 4
  pub none : last_named file name (drop i (rows_of rows)) ≡ None

module _ (file name rows : List ℕ) where
  pub plain-starts : Left file name rows (length rows / 4)
  unfolding last_named
  plain-starts =
      let h : length (rows_of rows) ≤ length rows / 4 = omega (arith, laid.rows-length rows) in
      record { most = omega arith; none = rw (drop_of_length-le (rows_of rows) h) }

  module _ (at i : ℕ) (e : at ≡ suc i) (l : Left file name rows at) where
    behind : last_named file name (drop (suc i) (rows_of rows)) ≡ None
    behind = rw e at l.none

    pub plain-hit : is_named file name (row_no (rows_of rows) i) ≡ true → Some i ≡ last_named file name (rows_of rows)
    plain-hit h = sym (last-is file name (rows_of rows) i (omega (arith, l.most, laid.rows-length rows)) h behind)

    pub plain-on : is_named file name (row_no (rows_of rows) i) ≡ false → Left file name rows i
    plain-on h =
        record { most = omega (arith, l.most); none = none_more file name (rows_of rows) i (omega (arith, l.most, laid.rows-length rows)) h behind }
