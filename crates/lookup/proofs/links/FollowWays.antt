-- The search along a chain of the rows' index: the ways through `follow`.
--     Going                                                where the search stands
--     follow-starts, follow-hit, follow-on, follow-ends    it starts; finds the row; goes on; ends without a row
--     follow-whole                                         where all rows may be looked at the chain is not too long
-- Assumes nothing.
use Rattle.std.proofs.Common.{ℕ, suc, ◌/◌, ◌%◌, ◌≤◌, ◌<◌, arith, ◌≡◌, sym, Bool, true, false, List, length, get_or, ◌+◌, Option, Some, None, Result}
use Rattle.std.proofs.Common.{Ok, Err}
use Rattle.std.specs.Result.{result_unwrap_or}
use Rattle.row.specs.Numbers.{rows_of}
use Rattle.row.proofs.Laid.{laid}
use Rattle.lookup.specs.declared.index.TooLong.{TooLong}
use Rattle.lookup.specs.Fnv.{hash_of}
use Rattle.lookup.specs.Names.{is_named, row_no}
use Rattle.lookup.specs.RowIndex.{row_in, IndexedFrom, Follows, last_from}
use Rattle.lookup.proofs.rows.LastDefinition.{SaysLast, from_is, from-none}
use Rattle.lookup.proofs.links.Chains as chains
use Rattle.lookup.proofs.links.Chains.{left, going_less, going-ends}
use Rattle.lookup.proofs.links.RowBuckets.{RowIn, row-in, row-says, named-name}

abbrev pub hits : List ℕ → List ℕ → List ℕ → ℕ → Bool
hits file name rows i = is_named file name (row_no (rows_of rows) i)

abbrev pub Going : List ℕ → List ℕ → List ℕ → ℕ → ℕ → ℕ → ℕ → Type 0
Going file name rows size b from at = chains.Going (hits file name rows) (row_in file (rows_of rows) size b) (length rows / 4) from at

module _ (file name rows heads next : List ℕ) (from b : ℕ) (x : IndexedFrom file rows from heads next) where
  pub follow-starts : (at : ℕ) → b < length heads → at ≡ get_or heads b 0 → Going file name rows (length heads) b from at
  follow-starts at h p =
      chains.going-starts (row_in file (rows_of rows) (length heads)) (length rows / 4) from heads next x.index b (hits file name rows) at x.inside h p

  module _ (at : ℕ) (g : Going file name rows (length heads) b from at) where
    module _ (i : ℕ) (e : at ≡ suc i) where
      pub follow-hit : from < at → hits file name rows i ≡ true → Some i ≡ last_from file name (rows_of rows) from
      follow-hit k h =
          let rs = rows_of rows in
          let r = row-says file rs (length heads) i b (g.own.passes i e) in
          let n = (named-name file rs i name h).1 in
          from_is file name rs from i (omega arith) (omega (arith, g.own.most, laid.rows-length rows)) h (rw n at r.last)

      pub follow-on : (after : ℕ) → hits file name rows i ≡ false → after ≡ get_or next i 0 →
          (left (length rows / 4) after < left (length rows / 4) at) × Going file name rows (length heads) b from after
      follow-on after h p =
          let o = chains.going_on (row_in file (rows_of rows) (length heads)) (length rows / 4) from heads next x.index b (hits file name rows) at i after e p h g in
          (going_less (length rows / 4) at after (omega arith) g.own.most o.0, o.1)

    pub follow-ends : b ≡ hash_of name % length heads → at ≤ from → None ≡ last_from file name (rows_of rows) from
    follow-ends e k = from-none file name (rows_of rows) from none
      where
        none : (i : ℕ) → from ≤ i → SaysLast file name (rows_of rows) i → ⊥
        none i m s =
            let n = named-name file (rows_of rows) i name s.named in
            let r : RowIn file (rows_of rows) (length heads) b i = record { kind = n.0; last = rw n.1 s.behind; bucket = rw n.1 (sym e) } in
            going-ends (hits file name rows) (row_in file (rows_of rows) (length heads) b) (length rows / 4) from at k g i m
            (omega (arith, s.below, laid.rows-length rows)) (row-in file (rows_of rows) (length heads) i b r) s.named

-- no chain has more rows than the file
pub follow-whole : (f : Option ℕ) (n : ℕ) (r : Result (Option ℕ) TooLong) → Follows f n (n + 1) r → result_unwrap_or r None ≡ f
follow-whole f n (Ok x) h = h
follow-whole f n (Err e) h = absurd (omega arith)
