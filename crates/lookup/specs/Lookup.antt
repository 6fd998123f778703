-- What the definitions of `Names` and `RowIndex` settle, for the crates above. The proof is `lookup` of proofs/Lookup.antt.
-- Assumes nothing.
use Rattle.std.specs.Prelude.{ℕ, ◌*◌, ◌/◌, ◌<◌, ◌≡◌, true, false, List, length, Some, None}
use Rattle.row.specs.Row.{Row}
use Rattle.row.specs.Numbers.{rows_of}
use Rattle.row.specs.Laid.{row_at}
use Rattle.lookup.specs.Names.{is_named, last_named, row_no}
use Rattle.lookup.specs.RowIndex.{Indexed}

-- row i is there and defines the name, and no row after it does
pub record Last (file name : List ℕ) (rs : List Row) (i : ℕ) : Type 0 where
  pub below : i < length rs
  pub named : is_named file name (row_no rs i) ≡ true
  pub last : (j : ℕ) → i < j → j < length rs → is_named file name (row_no rs j) ≡ false

pub record Lookup : Type 0 where
  -- "the last definition of a name counts": the row that is found is the last with this name, and the last is found
  pub found-last : (file name : List ℕ) (rs : List Row) (i : ℕ) → last_named file name rs ≡ Some i → Last file name rs i
  pub last_found : (file name : List ℕ) (rs : List Row) (i : ℕ) → Last file name rs i → last_named file name rs ≡ Some i
  -- nothing is found only where no row has the name
  pub none_named : (file name : List ℕ) (rs : List Row) → last_named file name rs ≡ None →
      (j : ℕ) → j < length rs → is_named file name (row_no rs j) ≡ false
  -- row i of lent numbers is the one that stands there from number 4 i on
  pub row-no : (l : List ℕ) (i : ℕ) → i < length l / 4 → row_no (rows_of l) i ≡ row_at l (i * 4)
  -- a caller without an index lends no buckets, and may lend no numbers at all
  pub no_index : (file rows heads next : List ℕ) → length heads ≡ 0 → Indexed file rows heads next
