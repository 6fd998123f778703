-- The proof of specs/Lookup.antt, by the laws of the last definition: `lookup`.
-- Assumes nothing.
use Rattle.std.proofs.Common.{ℕ, suc, ◌+◌, ◌-◌, ◌/◌, ◌<◌, arith, ◌≡◌, false, List, length, drop, length-drop, get_or-drop, Some, None}
use Rattle.row.specs.Row.{Row, row_of}
use Rattle.lookup.specs.Names.{is_named, last_named, row_no}
use Rattle.lookup.specs.RowIndex.{Indexed}
use Rattle.lookup.specs.Lookup.{Last, Lookup}
use Rattle.lookup.proofs.rows.LastDefinition.{last-is, last_says, none_is, none-says}
use Rattle.lookup.proofs.links.RowBuckets.{room}
use Rattle.lookup.proofs.rows.RowNumbers.{row-no}

module _ (file name : List ℕ) (rs : List Row) (i : ℕ) where
  row-behind : (j : ℕ) → row_no (drop (suc i) rs) j ≡ row_no rs (suc i + j)
  row-behind j = get_or-drop (suc i) rs j (row_of 0 0 0 0)

  found-last : last_named file name rs ≡ Some i → Last file name rs i
  found-last e = let s = last_says file name rs i e in record { below = s.below; named = s.named; last = λ j h k. by j h k s.behind }
    where
      by : (j : ℕ) → i < j → j < length rs → last_named file name (drop (suc i) rs) ≡ None → is_named file name (row_no rs j) ≡ false
      by j h k n =
          let z : suc i + (j - suc i) ≡ j = omega arith in
          let inside : j - suc i < length (drop (suc i) rs) = omega (arith, length-drop (suc i) rs) in
          rw (row-behind (j - suc i), z) at (none-says file name (drop (suc i) rs) n (j - suc i) inside)

  last_found : Last file name rs i → last_named file name rs ≡ Some i
  last_found l = last-is file name rs i l.below l.named (none_is file name (drop (suc i) rs) behind)
    where
      behind : (j : ℕ) → j < length (drop (suc i) rs) → is_named file name (row_no (drop (suc i) rs) j) ≡ false
      behind j h = rw (row-behind j) (l.last (suc i + j) (omega arith) (omega (arith, length-drop (suc i) rs)))

no_index : (file rows heads next : List ℕ) → length heads ≡ 0 → Indexed file rows heads next
no_index file rows heads next e f = absurd (omega (arith, (room (length rows / 4) (length heads) (length next) f).some))

pub lookup : Lookup
lookup = record { found-last = found-last; last_found = last_found; none_named = none-says; row-no = row-no; no_index = no_index }
