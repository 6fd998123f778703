-- The index of rows, made from the last row to the first: the ways through `link`, and the ends of `build`.
--     link-not, link-later, link-new    a row that is no definition; one whose name a later row defines; one that counts
--     links-made                        the chains were made
--     index-none                        the index of no rows
-- Assumes nothing.
use Rattle.std.proofs.Common.{ℕ, suc, ◌+◌, ◌-◌, ◌*◌, ◌/◌, ◌%◌, ◌<◌, add-one, arith, ◌≡◌, sym, ap, ◌∙◌, true, false, true≢false, List, length, get_or}
use Rattle.std.proofs.Common.{set, replicate, length-set, Option, Some, None, Ok, is_some}
use Rattle.std.proofs.lemmas.List.{length-replicate}
use Rattle.row.specs.Numbers.{rows_of}
use Rattle.lookup.specs.Fnv.{hash_of}
use Rattle.lookup.specs.Names.{name_of, row_no}
use Rattle.lookup.specs.Buckets.{Linked}
use Rattle.lookup.specs.RowIndex.{row_in, fits, IndexedFrom, Links, last_from}
use Rattle.lookup.proofs.rows.RowNumbers.{kind-by}
use Rattle.lookup.proofs.rows.LastDefinition.{from_nothing, from_row}
use Rattle.lookup.proofs.links.Chains.{link-none, link-in, link-out}
use Rattle.lookup.proofs.links.RowBuckets.{room, RowIn, row-in, row-alone, row_out, row-shadowed}

module _ (file rows : List ℕ) (i : ℕ) (heads next : List ℕ) (x : IndexedFrom file rows (i + 1) heads next) where
  below : i < length rows / 4
  below = omega (arith, x.inside)

  after : Linked (row_in file (rows_of rows) (length heads)) (length rows / 4) (suc i) heads next
  after = rw (add-one i) at x.index

  stays : ((b : ℕ) → row_in file (rows_of rows) (length heads) b i ≡ false) → IndexedFrom file rows i heads next
  stays o =
      record { room = x.room; inside = omega (arith, x.inside); index = link-out (row_in file (rows_of rows) (length heads)) (length rows / 4) i below heads next after o }

  pub link-not : (get_or rows (i * 4) 0 ≡ 8 → ⊥) → IndexedFrom file rows i heads next
  link-not n = stays (row_out file (rows_of rows) (length heads) i (λ e. n (sym (kind-by file rows i below) ∙ e)))

  module _ (name : List ℕ) (kind : get_or rows (i * 4) 0 ≡ 8) (named : name ≡ name_of file (row_no (rows_of rows) i)) where
    pub link-later : (later : Option ℕ) → later ≡ last_from file name (rows_of rows) (i + 1) → is_some later ≡ true → IndexedFrom file rows i heads next
    link-later None e t = absurd (true≢false (sym t))
    link-later (Some k) e t =
        let l = rw (add-one i) at (from_row file name (rows_of rows) (i + 1) k e) in
        stays (row-shadowed file (rows_of rows) (length heads) i (k - suc i) (kind-by file rows i below ∙ kind) (rw (← named) l))

    module _ (b : ℕ) (bucket : b ≡ hash_of name % length heads) (none : None ≡ last_from file name (rows_of rows) (i + 1)) where
      new_row : RowIn file (rows_of rows) (length heads) b i
      new_row =
          let l = rw (add-one i) at (from_nothing file name (rows_of rows) (i + 1) none) in
          record { kind = kind-by file rows i below ∙ kind; last = rw (← named) l; bucket = rw (← named) (sym bucket) }

      linked : b < length heads → IndexedFrom file rows i (set heads b (i + 1)) (set next i (get_or heads b 0))
      linked h =
          let rs = rows_of rows in
          let m = length heads in
          let each = (room (length rows / 4) m (length next) x.room).each in
          record {
            room = rw (length-set heads b (i + 1), length-set next i (get_or heads b 0)) x.room;
            inside = omega (arith, x.inside);
            index =
                rw (length-set heads b (i + 1), add-one i)
                (link-in (row_in file rs m) (length rows / 4) i below heads next after b h (omega (arith, below)) (row-in file rs m i b new_row) (row-alone file rs m i b new_row));
          }

    pub link-new : (later : Option ℕ) → later ≡ last_from file name (rows_of rows) (i + 1) → is_some later ≡ false →
        (b : ℕ) → (b ≡ hash_of name % length heads) × (b < length heads) → IndexedFrom file rows i (set heads b (i + 1)) (set next i (get_or heads b 0))
    link-new None e t b h = linked b h.0 e h.1
    link-new (Some k) e t b h = absurd (true≢false t)

pub links-made : (file rows : List ℕ) (i most : ℕ) (heads next : List ℕ) → IndexedFrom file rows i heads next →
    Links file rows i most (Ok tt) heads next
links-made file rows i most heads next x = record { made = λ e. x; long = λ e. absurd (true≢false e) }

pub index-none : (file rows old heads next : List ℕ) → fits (length rows / 4) (length old) (length next) ≡ true → heads ≡ replicate (length old) 0 →
    IndexedFrom file rows (length rows / 4) heads next
index-none file rows old heads next f e =
    let n = ap length e ∙ length-replicate (length old) 0 in
    record { room = rw n f; inside = omega arith; index = rw e (link-none _ (length rows / 4) (length old) next) }
