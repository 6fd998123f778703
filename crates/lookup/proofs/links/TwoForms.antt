-- The two forms of the index are told apart by the first number of `heads`: with chains it is at most the number of rows, in order it is more.
--     is-ordered                   the definitions are in order
--     ordered-fits, ordered-part   how many definitions there are, and that they stand in `next`
-- Assumes nothing.
use Rattle.std.proofs.Common.{ℕ, ◌-◌, ◌/◌, ◌≤◌, ◌<◌, arith, ◌≡◌, true, List, ◌⊎◌, ⊎_elim, length, get_or, take}
use Rattle.row.specs.Numbers.{rows_of}
use Rattle.row.proofs.Laid.{laid}
use Rattle.lookup.specs.Order.{definitions, in_order, Ordered}
use Rattle.lookup.specs.RowIndex.{fits, row_in, IndexedFrom}
use Rattle.lookup.proofs.links.First.{first-own}
use Rattle.lookup.proofs.links.RowBuckets.{room}
use Rattle.lookup.proofs.sorting.Definitions.{definitions-length}

module _ (file rows heads next : List ℕ) where
  module _ (x : IndexedFrom file rows 0 heads next ⊎ Ordered file rows heads next) where
    pub is-ordered : length rows / 4 < get_or heads 0 0 → Ordered file rows heads next
    is-ordered h = ⊎_elim (λ l. absurd (linked l)) (λ o. o) x
      where
        linked : IndexedFrom file rows 0 heads next → ⊥
        linked l =
            let some = (room (length rows / 4) (length heads) (length next) l.room).some in
            let first = first-own (row_in file (rows_of rows) (length heads) 0) (length rows / 4) 0 (omega arith) in
            omega (arith, l.index.head 0 some, first.most)

  -- mark is the first number of `heads`
  module _ (o : Ordered file rows heads next) (mark : ℕ) (first : mark ≡ get_or heads 0 0) where
    count : mark - length rows / 4 - 1 ≡ length (definitions (rows_of rows))
    count = omega (arith, o.mark)

    pub ordered-fits : fits (length rows / 4) (length heads) (length next) ≡ true → mark - length rows / 4 - 1 ≤ length next
    ordered-fits f =
        let each = (room (length rows / 4) (length heads) (length next) f).each in
        omega (arith, count, definitions-length (rows_of rows), laid.rows-length rows)

    pub ordered-part : take (mark - length rows / 4 - 1) next ≡ in_order file (rows_of rows)
    ordered-part = rw count o.order
