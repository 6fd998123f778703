-- The search for a month word, from the first on.
--     Seeking                                no word before those of the rows is the name's
--     seek-starts, seek-word                 where the search begins; a month's word lies in the lent bytes
--     seek_hit, seek-on, seek-none           the ways through `find_month`
-- Assumes nothing.
use Rattle.std.specs.Prelude.{Some, None}
use Prim.Native.Nat.{ℕ, ◌-◌, ◌%◌, ◌≤◌}
use native.Mathlib.Omega.{arith}
use mathlib.Core.Path.{◌≡◌, refl, sym, ap, ◌∙◌}
use mathlib.Core.Bool.{Bool, true, false, ◌&&◌}
use mathlib.Core.List.{List, [], ◌∷◌, map}
use lib.ListN.{length, take, drop}
use lib.Dec.{eqb, leb}
use borrow.Author.Tests.{leb-true}
use Rattle.text.specs.Utf8.{validity_of}
use Rattle.text.specs.Scan.{part}
use Rattle.text.proofs.general.Places.{part-clamped}
use Rattle.text.proofs.general.Tests.{both_true}
use Rattle.row.specs.Numbers.{rows_of}
use Rattle.row.specs.Row.{Row}
use Rattle.text.specs.SameBytes.{same_bytes}
use Rattle.text.specs.Every.{every}
use Rattle.resolve.specs.Checks.{month_in, months_of, is_valid, is_text, is_month, every_month, are_months}
use Rattle.values.specs.Field.{month_of}
use Rattle.values.specs.Uses.{MonthFound}

pub record Seeking (months words name : List ℕ) (rs : List Row) : Type 0 where
  pub left : every_month words rs ≡ true
  pub same : month_of name (months_of months words) ≡ month_of name (map (month_in words) rs)

inside : (words : List ℕ) (a e : ℕ) → is_text words a e ≡ true → (a ≤ e) × (e ≤ length words)
inside words a e h =
    let p = both_true (leb a e) (leb e (length words) && is_valid (validity_of (part words a e))) h in
    (leb-true a e p.0, leb-true e (length words) (both_true (leb e (length words)) (is_valid (validity_of (part words a e))) p.1).0)

module _ (months words name : List ℕ) where
  pub seek-starts : are_months months words ≡ true → Seeking months words name (rows_of months)
  unfolding are_months
  seek-starts h = record { left = (both_true (eqb (length months % 4) 0) (every_month words (rows_of months)) h).1; same = refl }

  module _ {l rs : List Row} {r : Row} (s : Seeking months words name l) (e : l ≡ r ∷ rs) where
    both : (is_month words r && every_month words rs) ≡ true
    unfolding every
    both = rw e at s.left

    texts : (is_text words r.kind r.detail ≡ true) × (is_text words r.start r.end ≡ true)
    texts = both_true (is_text words r.kind r.detail) (is_text words r.start r.end) (both_true (is_month words r) (every_month words rs) both).0

    pub seek-word : (r.kind ≤ r.detail) × (r.detail ≤ length words)
    seek-word = inside words r.kind r.detail texts.0

    word : take (r.detail - r.kind) (drop r.kind words) ≡ part words r.kind r.detail
    word = part-clamped words r.kind r.detail {n = r.detail} {m = r.kind} (omega (arith, seek-word.1)) (omega (arith, seek-word.0))

    named : (t : Bool) → same_bytes (take (r.detail - r.kind) (drop r.kind words)) name ≡ t → same_bytes (part words r.kind r.detail) name ≡ t
    named t x = ap (λ (b : List ℕ). same_bytes b name) (sym word) ∙ x

    pub seek_hit : same_bytes (take (r.detail - r.kind) (drop r.kind words)) name ≡ true → MonthFound months words name (Some (r.start, r.end))
    unfolding month_of
    seek_hit x =
        let d = inside words r.start r.end texts.1 in
        (s.same ∙ rw (e, named true x), d.0, d.1)

    pub seek-on : same_bytes (take (r.detail - r.kind) (drop r.kind words)) name ≡ false → Seeking months words name rs
    unfolding month_of
    seek-on x = record {
      left = (both_true (is_month words r) (every_month words rs) both).1;
      same = s.same ∙ rw (e, named false x);
    }

  pub seek-none : {l : List Row} → Seeking months words name l → l ≡ [] → MonthFound months words name None
  unfolding month_of
  seek-none s e = s.same ∙ rw e
