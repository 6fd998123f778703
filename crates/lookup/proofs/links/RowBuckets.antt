-- Which bucket a row is in.
--     IndexRoom, room                         what `fits` says
--     RowIn, row-in, row-says                 a row is in a bucket exactly if it counts and its name falls into the bucket
--     row-alone, row_out, row-shadowed        in which buckets a row is not
--     row_counts, counts-in, counts-inside    rows that count
--     named-name, name-named                  a row defines a name exactly if it is a definition with its bytes
-- Assumes nothing.
use Rattle.std.proofs.Common.{ℕ, suc, ◌%◌, ◌≤◌, ◌<◌, arith, ◌≡◌, refl, sym, ap, ◌∙◌, Bool, true, false, ◌&&◌, List, length, drop, eqb, leb, ltb}
use Rattle.std.proofs.Common.{ltb-true, ltb-false, leb-true, eqb-true, eq-eqb, ne_eqb, Option, Some, None}
use Rattle.std.proofs.Math.ListN.{get_or-eq_default}
use Rattle.std.proofs.lemmas.Bool.{false≢true}
use Rattle.text.proofs.general.Tests.{both_true}
use Rattle.row.specs.Row.{Row, row_of}
use Rattle.lookup.specs.Fnv.{hash_of}
use Rattle.text.specs.SameBytes.{same_bytes}
use Rattle.lookup.specs.Names.{name_of, is_named, row_no, last_named}
use Rattle.lookup.specs.RowIndex.{is_nothing, counts, row_in, fits}
use Rattle.text.proofs.general.SameBytes.{same_true, same_self}

-- ---- the room

pub record IndexRoom (n heads next : ℕ) : Type 0 where
  pub some : 0 < heads
  pub each : n ≤ next
  pub small : n ≤ 2147483647

pub room : (n heads next : ℕ) → fits n heads next ≡ true → IndexRoom n heads next
room n heads next e =
    let p = both_true (ltb 0 heads && leb n next) (leb n 2147483647) e in
    let q = both_true (ltb 0 heads) (leb n next) p.0 in
    record { some = ltb-true 0 heads q.0; each = leb-true n next q.1; small = leb-true n 2147483647 p.1 }

-- ---- which bucket

is-nothing : (f : Option ℕ) → is_nothing f ≡ true → f ≡ None
is-nothing (Some n) e = absurd (false≢true e)
is-nothing None e = refl

pub record RowIn (file : List ℕ) (rs : List Row) (size b i : ℕ) : Type 0 where
  pub kind : (row_no rs i).kind ≡ 8
  pub last : last_named file (name_of file (row_no rs i)) (drop (suc i) rs) ≡ None
  pub bucket : hash_of (name_of file (row_no rs i)) % size ≡ b

module _ (file : List ℕ) (rs : List Row) (size i : ℕ) where
  pub row-in : (b : ℕ) → RowIn file rs size b i → row_in file rs size b i ≡ true
  unfolding row_in counts
  row-in b r = rw (eq-eqb (row_no rs i).kind 8 r.kind, r.last) (eq-eqb (hash_of (name_of file (row_no rs i)) % size) b r.bucket)

  pub row-says : (b : ℕ) → row_in file rs size b i ≡ true → RowIn file rs size b i
  unfolding row_in counts
  row-says b e =
      let later = last_named file (name_of file (row_no rs i)) (drop (suc i) rs) in
      let p = both_true (counts file rs i) (eqb (hash_of (name_of file (row_no rs i)) % size) b) e in
      let q = both_true (eqb (row_no rs i).kind 8) (is_nothing later) p.0 in
      record { kind = eqb-true _ _ q.0; last = is-nothing later q.1; bucket = eqb-true _ _ p.1 }

  pub row_counts : (b : ℕ) → RowIn file rs size b i → counts file rs i ≡ true
  unfolding counts
  row_counts b r = rw (eq-eqb (row_no rs i).kind 8 r.kind, r.last)

  -- a row that counts is in the bucket of its name
  pub counts-in : counts file rs i ≡ true → row_in file rs size (hash_of (name_of file (row_no rs i)) % size) i ≡ true
  unfolding row_in
  counts-in e = rw e (eq-eqb (hash_of (name_of file (row_no rs i)) % size) (hash_of (name_of file (row_no rs i)) % size) refl)

  -- a row is in one bucket
  pub row-alone : (b : ℕ) → RowIn file rs size b i → (c : ℕ) → (c ≡ b → ⊥) → row_in file rs size c i ≡ false
  unfolding row_in counts
  row-alone b r c n =
      rw (eq-eqb (row_no rs i).kind 8 r.kind, r.last) (ne_eqb (hash_of (name_of file (row_no rs i)) % size) c (λ z. n (sym z ∙ r.bucket)))

  -- a row that is no definition is in no bucket, nor is one whose name a later row defines
  pub row_out : ((row_no rs i).kind ≡ 8 → ⊥) → (b : ℕ) → row_in file rs size b i ≡ false
  unfolding row_in counts
  row_out n b = rw (ne_eqb (row_no rs i).kind 8 n)

  pub row-shadowed : (k : ℕ) → (row_no rs i).kind ≡ 8 → last_named file (name_of file (row_no rs i)) (drop (suc i) rs) ≡ Some k → (b : ℕ) → row_in file rs size b i ≡ false
  unfolding row_in counts
  row-shadowed k e l b = rw (eq-eqb (row_no rs i).kind 8 e, l)

-- a row that defines a name has its bytes, and a definition that has them defines it
module _ (file : List ℕ) (rs : List Row) (i : ℕ) (name : List ℕ) where
  pub named-name : is_named file name (row_no rs i) ≡ true → ((row_no rs i).kind ≡ 8) × (name_of file (row_no rs i) ≡ name)
  unfolding is_named
  named-name e =
      let p = both_true (eqb (row_no rs i).kind 8) (same_bytes (name_of file (row_no rs i)) name) e in
      (eqb-true _ _ p.0, same_true (name_of file (row_no rs i)) name p.1)

  pub name-named : (row_no rs i).kind ≡ 8 → name_of file (row_no rs i) ≡ name → is_named file name (row_no rs i) ≡ true
  unfolding is_named
  name-named k e = rw (eq-eqb (row_no rs i).kind 8 k, e) (same_self name)

-- a number that counts is the number of a row
pub counts-inside : (file : List ℕ) (rs : List Row) (i : ℕ) → counts file rs i ≡ true → i < length rs
counts-inside file rs i e = by (ltb i (length rs)) refl
  where
    kind : (row_no rs i).kind ≡ 8
    kind = (row-says file rs 1 i _ (counts-in file rs 1 i e)).kind

    by : (b : Bool) → ltb i (length rs) ≡ b → i < length rs
    by true t = ltb-true i (length rs) t
    by false t =
        let z : ◌≡◌ {A = ℕ} 0 8 = sym (ap (λ (r : Row). r.kind) (get_or-eq_default rs (row_of 0 0 0 0) (ltb-false i (length rs) t))) ∙ kind in
        absurd (omega arith)
