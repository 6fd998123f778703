-- Values that fit, and those in front of them.
--     ValuesRoom, fits-room, room_fits      what `fits_all` says, in numbers
--     fits-as                               `fits_all` depends only on how long the lent outputs are
--     room-front, full-front                values in front of others need no more room; where they do not fit, all do not
--     small-counts, counts-small            what `small_all` says, in numbers
-- Assumes nothing.
use Prim.Native.Nat.{ℕ, ◌/◌, ◌≤◌}
use native.Mathlib.Omega.{arith}
use mathlib.Core.Path.{◌≡◌, refl, ap, ◌∙◌}
use mathlib.Core.Bool.{Bool, true, false, ◌&&◌}
use mathlib.Core.List.{List, ◌++◌}
use lib.ListN.{length, length-append}
use lib.Dec.{leb}
use borrow.Author.Tests.{leb-true, le-leb}
use Rattle.text.proofs.general.Tests.{both_true, true-not-false}
use Rattle.literal.specs.Rows.{most_number}
use Rattle.resolve.specs.Resolves.{Value}
use Rattle.whole.specs.WholeFile.{texts, count_rows, small_all, fits_all}
use Rattle.whole.proofs.values.Appended.{rows_append, texts-append}

-- there is room for the values
pub record ValuesRoom (vs : List Value) (q b t : List ℕ) : Type 0 where
  pub few : count_rows vs ≤ most_number
  pub short : length (texts vs) ≤ most_number
  pub answers : length vs ≤ length q / 6
  pub chunks : count_rows vs ≤ length b / 5
  pub text : length (texts vs) ≤ length t

pub small-counts : (vs : List Value) → small_all vs ≡ true → (count_rows vs ≤ most_number) × (length (texts vs) ≤ most_number)
unfolding small_all
small-counts vs h =
    let e = both_true (leb (count_rows vs) most_number) (leb (length (texts vs)) most_number) h in
    (leb-true (count_rows vs) most_number e.0, leb-true (length (texts vs)) most_number e.1)

pub counts-small : (vs : List Value) → count_rows vs ≤ most_number → length (texts vs) ≤ most_number → small_all vs ≡ true
unfolding small_all
counts-small vs h k = rw (le-leb (count_rows vs) most_number h, le-leb (length (texts vs)) most_number k)

pub fits-room : (vs : List Value) (q b t : List ℕ) → fits_all vs q b t ≡ true → ValuesRoom vs q b t
unfolding fits_all
fits-room vs q b t h =
    let n = leb (length vs) (length q / 6) in
    let r = leb (count_rows vs) (length b / 5) in
    let m = leb (length (texts vs)) (length t) in
    let e = both_true (small_all vs) (n && (r && m)) h in
    let f = both_true n (r && m) e.1 in
    let g = both_true r m f.1 in
    let s = small-counts vs e.0 in
    record {
      few = s.0;
      short = s.1;
      answers = leb-true (length vs) (length q / 6) f.0;
      chunks = leb-true (count_rows vs) (length b / 5) g.0;
      text = leb-true (length (texts vs)) (length t) g.1;
    }

pub room_fits : (vs : List Value) (q b t : List ℕ) → ValuesRoom vs q b t → fits_all vs q b t ≡ true
unfolding fits_all
room_fits vs q b t r =
    rw (
      counts-small vs r.few r.short,
      le-leb (length vs) (length q / 6) r.answers,
      le-leb (count_rows vs) (length b / 5) r.chunks,
      le-leb (length (texts vs)) (length t) r.text,
    )

pub fits-as : (vs : List Value) (q b t q' b' t' : List ℕ) → length q' ≡ length q → length b' ≡ length b → length t' ≡ length t
    → fits_all vs q b t ≡ true → fits_all vs q' b' t' ≡ true
fits-as vs q b t q' b' t' hq hb ht h =
    let r = fits-room vs q b t h in
    room_fits vs q' b' t'
    (record { few = r.few; short = r.short; answers = rw hq r.answers; chunks = rw hb r.chunks; text = rw ht r.text })

pub room-front : (vs ws : List Value) (q b t : List ℕ) → ValuesRoom (vs ++ ws) q b t → ValuesRoom vs q b t
room-front vs ws q b t r =
    let n = length-append vs ws in
    let k = rows_append vs ws in
    let m = ap length (texts-append vs ws) ∙ length-append (texts vs) (texts ws) in
    record {
      few = omega (arith, r.few);
      short = omega (arith, r.short);
      answers = omega (arith, r.answers);
      chunks = omega (arith, r.chunks);
      text = omega (arith, r.text);
    }

pub full-front : (vs ws : List Value) (q b t : List ℕ) → fits_all vs q b t ≡ false → fits_all (vs ++ ws) q b t ≡ false
full-front vs ws q b t h = by (fits_all (vs ++ ws) q b t) refl
  where
    by : (w : Bool) → fits_all (vs ++ ws) q b t ≡ w → w ≡ false
    by true e = true-not-false (fits_all vs q b t) (room_fits vs q b t (room-front vs ws q b t (fits-room (vs ++ ws) q b t e))) h
    by false e = refl
