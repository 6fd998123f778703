-- The loops that judge rows by masks before anything is written: each row must keep the row rules and pass a test of its span.
--     Judging                          the loops' invariant
--     judge-row, judge-off, judge-end  after a row; at a row whose span is refused; at the end
--     four-count, four-start           the loop over numbers, four to a row: their number is refused, or the loop begins
--     seven-count, seven-start         the loop over bytes, seven to a row: their number is refused, or the loop begins
-- Assumes nothing.
use Rattle.std.proofs.Common.{ℕ, ◌%◌, ◌≡◌, sym, ap, ◌∙◌, Bool, true, false, ◌&&◌, List, [], ◌∷◌, length, ne_eqb}
use mathlib.Core.Bool.{and-true, and-false}
use Rattle.text.specs.Every.{every}
use Rattle.row.specs.declared.mask.Masks.{Masks}
use Rattle.row.specs.Row.{Row}
use Rattle.row.specs.Rules.{Await, part, run, whole, is_rows}
use Rattle.row.specs.Numbers.{rows_of, are_rows}
use Rattle.row.specs.Masks.{masks_of, step_of, ends_of}
use Rattle.row.specs.Ruled.{after_row}
use Rattle.row.proofs.Ruled.{ruled}
use Rattle.pack.specs.Seven.{unpacking, end_fits, span_fits}
use Rattle.pack.specs.Pack.{is_packable}
use Rattle.pack.specs.Unpack.{is_unpackable}

-- whether the rows rs keep the rules where a is awaited, and each passes the test t
abbrev pub judged : (Row → Bool) → Await → List Row → Bool
judged t a rs = whole (run a rs) && every t rs

-- the rows rs are still to be judged, the masks m stand for what is awaited, and the answer x is whether the rows rs pass
pub record Judging (t : Row → Bool) (x : Bool) (m : Masks) (rs : List Row) : Type 0 where
  pub await : Await
  pub stand : m ≡ masks_of await
  pub left : x ≡ judged t await rs

module _ {t : Row → Bool} {x : Bool} {m : Masks} {rs : List Row} (o : Judging t x m rs) where
  module _ {r : Row} {ss : List Row} (e : rs ≡ r ∷ ss) where
    pub judge-row : {n : Masks} → n ≡ step_of m r.kind r.detail → t r ≡ true → Judging t x n ss
    unfolding run every
    judge-row p f =
        record {
          await = after_row o.await r.kind r.detail;
          stand = p ∙ ap (λ (k : Masks). step_of k r.kind r.detail) o.stand ∙ ruled.masks-step o.await r.kind r.detail;
          left = o.left ∙ rw (e, f);
        }

    pub judge-off : t r ≡ false → false ≡ x
    unfolding run every
    judge-off f = sym (o.left ∙ rw (e, f) (and-false (whole (run o.await (r ∷ ss)))))

  pub judge-end : {w : Bool} → rs ≡ [] → w ≡ ends_of m → w ≡ x
  unfolding run every
  judge-end e p = p ∙ ap ends_of o.stand ∙ ruled.masks-whole o.await ∙ sym (o.left ∙ rw e (and-true (whole o.await)))

-- ---- the check of `pack`

module _ (l : List ℕ) where
  pub four-count : (length l % 4 ≡ 0 → ⊥) → false ≡ is_packable l
  unfolding is_packable are_rows
  four-count h = rw (ne_eqb (length l % 4) 0 h)

  pub four-start : {m : Masks} → length l % 4 ≡ 0 → m ≡ masks_of (part false) → Judging span_fits (is_packable l) m (rows_of l)
  unfolding is_packable are_rows is_rows
  four-start h e = record { await = part false; stand = e; left = rw h }

-- ---- the check of `unpack`

module _ (s : List ℕ) where
  pub seven-count : (length s % 7 ≡ 0 → ⊥) → false ≡ is_unpackable s
  unfolding is_unpackable
  seven-count h = rw (ne_eqb (length s % 7) 0 h)

  pub seven-start : {m : Masks} → length s % 7 ≡ 0 → m ≡ masks_of (part false) → Judging end_fits (is_unpackable s) m (unpacking s)
  unfolding is_unpackable is_rows
  seven-start h e = record { await = part false; stand = e; left = rw h }
