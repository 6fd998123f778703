-- What is accepted: packable numbers and unpackable bytes.
--     Packable, packable                what is known of packable numbers
--     AllInSeven, packable-seven        seven bytes hold each row of packable numbers
--     first-seven                       where seven bytes hold each row, they hold the next row and the rows behind it
--     Unpackable, unpackable            what is known of unpackable bytes
--     spans_fit                         spans that lie in a file pass the test of packing
--     ends-of-spans                     rows that pass the test of packing pass that of unpacking
--     spans-of-ends                     rows that were unpacked, and pass the test of unpacking, pass that of packing
--     flat-packable                     the numbers of rows that keep the rules, with spans of a file, are packable
-- Assumes nothing.
use Rattle.std.proofs.Common.{ℕ, ◌%◌, ◌≤◌, arith, ◌≡◌, refl, true, ◌&&◌, List, [], ◌∷◌, length, eqb, leb, leb-true, le-leb, eqb-true}
use Rattle.text.proofs.general.Tests.{both_true}
use Rattle.text.specs.Every.{every}
use Rattle.row.specs.Row.{Row, flat}
use Rattle.row.specs.Spans.{SpansIn}
use Rattle.row.specs.Limits.{most_bytes}
use Rattle.row.specs.Rules.{is_rows}
use Rattle.row.specs.Numbers.{rows_of, are_rows}
use Rattle.row.proofs.Laid.{laid}
use Rattle.row.specs.Ruled.{AllSmall}
use Rattle.row.proofs.Ruled.{ruled}
use Rattle.pack.specs.Seven.{unpack_row, unpacking, end_fits, span_fits, InSeven}
use Rattle.pack.specs.Pack.{is_packable}
use Rattle.pack.specs.Unpack.{is_unpackable}

-- ---- packable numbers

pub record Packable (l : List ℕ) : Type 0 where
  pub count : length l % 4 ≡ 0
  pub rules : is_rows (rows_of l) ≡ true
  pub spans : every span_fits (rows_of l) ≡ true

pub packable : (l : List ℕ) → is_packable l ≡ true → Packable l
unfolding is_packable are_rows
packable l e =
    let x = both_true _ (every span_fits (rows_of l)) e in
    let y = both_true (eqb (length l % 4) 0) (is_rows (rows_of l)) x.0 in
    record { count = eqb-true (length l % 4) 0 y.0; rules = y.1; spans = x.1 }

unfoldable pub AllInSeven : List Row → Type 0
AllInSeven [] = Unit {0}
AllInSeven (r ∷ rs) = InSeven r × AllInSeven rs

all-seven : (rs : List Row) → AllSmall rs → every span_fits rs ≡ true → AllInSeven rs
unfolding AllSmall every AllInSeven
all-seven [] a e = tt
all-seven (r ∷ rs) a e =
    let x = both_true (span_fits r) (every span_fits rs) e in
    let y = both_true (end_fits r) (leb r.start r.end) x.0 in
    let o = leb-true r.start r.end y.1 in
    let h = leb-true r.end most_bytes y.0 in
    (record { kind = a.0.kind; detail = a.0.detail; order = o; end = h }, all-seven rs a.1 x.1)

pub packable-seven : (l : List ℕ) → Packable l → AllInSeven (rows_of l)
packable-seven l p = all-seven (rows_of l) (ruled.rules-small (rows_of l) p.rules) p.spans

pub first-seven : {r : Row} {ss rs : List Row} → rs ≡ r ∷ ss → AllInSeven rs → InSeven r × AllInSeven ss
unfolding AllInSeven
first-seven e a = rw e at a

-- ---- unpackable bytes

pub record Unpackable (s : List ℕ) : Type 0 where
  pub count : length s % 7 ≡ 0
  pub rules : is_rows (unpacking s) ≡ true
  pub ends : every end_fits (unpacking s) ≡ true

pub unpackable : (s : List ℕ) → is_unpackable s ≡ true → Unpackable s
unfolding is_unpackable
unpackable s e =
    let x = both_true (eqb (length s % 7) 0) (is_rows (unpacking s) && every end_fits (unpacking s)) e in
    let y = both_true (is_rows (unpacking s)) (every end_fits (unpacking s)) x.1 in
    record { count = eqb-true (length s % 7) 0 x.0; rules = y.0; ends = y.1 }

-- ---- spans

pub spans_fit : (n : ℕ) → n ≤ most_bytes → (rs : List Row) → SpansIn n rs → every span_fits rs ≡ true
unfolding SpansIn every
spans_fit n h [] a = refl
spans_fit n h (r ∷ rs) a =
    rw (le-leb r.end most_bytes (omega (arith, a.0.inside)), le-leb r.start r.end a.0.order) (spans_fit n h rs a.1)

pub ends-of-spans : (rs : List Row) → every span_fits rs ≡ true → every end_fits rs ≡ true
unfolding every
ends-of-spans [] e = refl
ends-of-spans (r ∷ rs) e =
    let x = both_true (span_fits r) (every span_fits rs) e in
    rw (both_true (end_fits r) (leb r.start r.end) x.0).0 (ends-of-spans rs x.1)

-- an unpacked end is a start plus a length, so no start is greater than its end
pub spans-of-ends : (s : List ℕ) → every end_fits (unpacking s) ≡ true → every span_fits (unpacking s) ≡ true
unfolding every unpacking
spans-of-ends [] h = refl
spans-of-ends (a ∷ []) h = refl
spans-of-ends (a ∷ b ∷ []) h = refl
spans-of-ends (a ∷ b ∷ c ∷ []) h = refl
spans-of-ends (a ∷ b ∷ c ∷ d ∷ []) h = refl
spans-of-ends (a ∷ b ∷ c ∷ d ∷ e ∷ []) h = refl
spans-of-ends (a ∷ b ∷ c ∷ d ∷ e ∷ f ∷ []) h = refl
spans-of-ends (g ∷ a ∷ b ∷ c ∷ d ∷ e ∷ f ∷ s) h =
    let r = unpack_row g a b c d e f in
    let x = both_true (end_fits r) (every end_fits (unpacking s)) h in
    rw (x.0, le-leb r.start r.end (omega arith)) (spans-of-ends s x.1)

pub flat-packable : (rs : List Row) → is_rows rs ≡ true → every span_fits rs ≡ true → is_packable (flat rs) ≡ true
unfolding is_packable are_rows
flat-packable rs p q =
    let e : length (flat rs) % 4 ≡ 0 = omega (arith, laid.flat-length rs) in
    rw (e, laid.rows-flat rs, p) q
