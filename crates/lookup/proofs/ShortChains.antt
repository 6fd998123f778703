-- The proof of specs/ShortChains.antt: `short-chains`.
-- Assumes nothing.
use Rattle.std.proofs.Common.{ℕ, suc, ◌+◌, ◌-◌, ◌/◌, ◌<◌, arith, ◌≡◌, refl, sym, ◌∙◌, Bool, true, false, true≢false, List, length, get_or, drop}
use Rattle.std.proofs.Common.{length-drop, get_or-drop, ltb, ltb-true, ltb-false}
use Rattle.row.specs.Row.{Row, row_of}
use Rattle.row.specs.Numbers.{rows_of}
use Rattle.lookup.specs.Names.{name_of, row_no}
use Rattle.lookup.specs.Buckets.{rising, Chain}
use Rattle.lookup.specs.RowIndex.{counts, row_in, IndexedFrom}
use Rattle.lookup.specs.ShortChains.{ShortChains}
use Rattle.lookup.proofs.rows.LastDefinition.{none-says}
use Rattle.lookup.proofs.links.Chains.{chain-rises}
use Rattle.lookup.proofs.links.RowBuckets.{row-says, counts-in, counts-inside, name-named}

module _ (file : List ℕ) (rs : List Row) where
  -- a row that counts is not followed by another definition of its name
  not-before : (i j : ℕ) → counts file rs i ≡ true → counts file rs j ≡ true → name_of file (row_no rs j) ≡ name_of file (row_no rs i) → i < j → ⊥
  not-before i j c d e h =
      let name = name_of file (row_no rs i) in
      let last = (row-says file rs 1 i _ (counts-in file rs 1 i c)).last in
      let kind = (row-says file rs 1 j _ (counts-in file rs 1 j d)).kind in
      let k = counts-inside file rs j d in
      let m : j - suc i < length (drop (suc i) rs) = omega (arith, length-drop (suc i) rs) in
      let z : suc i + (j - suc i) ≡ j = omega arith in
      let n = rw (get_or-drop (suc i) rs (j - suc i) (row_of 0 0 0 0), z) at (none-says file name (drop (suc i) rs) last (j - suc i) m) in
      true≢false (sym (name-named file rs j name kind e) ∙ n)

  once : (i j : ℕ) → counts file rs i ≡ true → counts file rs j ≡ true → name_of file (row_no rs i) ≡ name_of file (row_no rs j) → i ≡ j
  once i j c d e = by (ltb i j) refl (ltb j i) refl
    where
      by : (s : Bool) → ltb i j ≡ s → (t : Bool) → ltb j i ≡ t → i ≡ j
      by true s t u = absurd (not-before i j c d (sym e) (ltb-true i j s))
      by false s true u = absurd (not-before j i d c e (ltb-true j i u))
      by false s false u = omega (arith, ltb-false i j s, ltb-false j i u)

chain : (file rows heads next : List ℕ) → IndexedFrom file rows 0 heads next → (b : ℕ) → b < length heads →
    Chain next (get_or heads b 0) (rising (row_in file (rows_of rows) (length heads) b) (length rows / 4) 0)
chain file rows heads next x b h = chain-rises (row_in file (rows_of rows) (length heads)) (length rows / 4) heads next x.index b h

pub short-chains : ShortChains
short-chains = record { chain = chain; once = once }
