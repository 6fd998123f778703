-- Many definitions of one name make no chain longer: a chain of the index has at most one row of each name. The proof is `short-chains` of
-- proofs/ShortChains.antt.
-- Assumes nothing.
use Rattle.std.specs.Prelude.{ℕ, ◌/◌, ◌<◌, ◌≡◌, true, List, length, get_or}
use Rattle.row.specs.Row.{Row}
use Rattle.row.specs.Numbers.{rows_of}
use Rattle.lookup.specs.Names.{name_of, row_no}
use Rattle.lookup.specs.Buckets.{rising, Chain}
use Rattle.lookup.specs.RowIndex.{counts, row_in, IndexedFrom}

pub record ShortChains : Type 0 where
  -- the chain of bucket b goes through just the rows that count and whose names fall into the bucket, in the file's order
  pub chain : (file rows heads next : List ℕ) → IndexedFrom file rows 0 heads next → (b : ℕ) → b < length heads →
      Chain next (get_or heads b 0) (rising (row_in file (rows_of rows) (length heads) b) (length rows / 4) 0)
  -- no two rows that count have one name
  pub once : (file : List ℕ) (rs : List Row) (i j : ℕ) → counts file rs i ≡ true → counts file rs j ≡ true →
      name_of file (row_no rs i) ≡ name_of file (row_no rs j) → i ≡ j
