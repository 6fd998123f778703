-- The checks of src/lent.rt.
--     every-pass, every-not, every-end     a test of each row: one row more, and the end
--     text-not, text-inside, text-there    `is_text`
--     count-not, count-whole               `are_months`
--     value_none, value_there              `is_value`
--     lent-bad, lent-good                  `are_lent`
-- Assumes nothing.
use Rattle.text.specs.declared.utf8.IllFormed.{IllFormed}
use Rattle.std.specs.Prelude.{Ok, Err, Result, ⊤, is_ok, is_err}
use Rattle.row.specs.declared.fault.Reason.{Reason}
use Rattle.row.specs.declared.fault.Reason.TheVariants.{BadRows}
use Prim.Native.Nat.{ℕ, ◌-◌, ◌*◌, ◌/◌, ◌%◌, ◌≤◌, ◌<◌}
use native.Mathlib.Omega.{arith}
use mathlib.Core.Path.{◌≡◌, refl, sym}
use mathlib.Core.Bool.{Bool, true, false, cond, ◌&&◌, ◌||◌, and-false}
use mathlib.Core.List.{List, [], ◌∷◌}
use Rattle.row.specs.Row.{Row}
use lib.ListN.{length, get_or, take, drop, drop_of_length-le}
use lib.Dec.{eqb, ltb}
use borrow.Author.Tests.{ltb-true, ltb-false, lt-leb, le-leb, eq-eqb, ne_eqb}
use Rattle.std.proofs.lemmas.Bool.{false≢true}
use Rattle.text.specs.Utf8.{validity_of}
use Rattle.text.proofs.general.Places.{part-clamped}
use Rattle.text.specs.Every.{every}
use Rattle.row.specs.Numbers.{rows_of, are_rows, check_of}
use Rattle.row.proofs.Laid.{laid}
use Rattle.resolve.specs.Checks.{every_span, is_value, is_valid, is_text, every_month, are_months, are_lent}

-- ---- a test of each row

module _ (t : Row → Bool) {l : List Row} where
  module _ {r : Row} {rs : List Row} (e : l ≡ r ∷ rs) where
    pub every-pass : t r ≡ true → every t l ≡ every t rs
    unfolding every
    every-pass h = rw (e, h)

    pub every-not : t r ≡ false → every t l ≡ false
    unfolding every
    every-not h = rw (e, h)

  pub every-end : l ≡ [] → every t l ≡ true
  unfolding every
  every-end e = rw e

-- ---- a month word, or its text

module _ (words : List ℕ) (from to : ℕ) where
  pub text-not : (ltb to from || ltb (length words) to) ≡ true → false ≡ is_text words from to
  text-not = by (ltb to from) (ltb (length words) to) refl refl
    where
      by : (a b : Bool) → ltb to from ≡ a → ltb (length words) to ≡ b → (a || b) ≡ true → false ≡ is_text words from to
      by true b p q e = rw (lt-leb from to (ltb-true to from p))
      by false true p q e = rw (lt-leb to (length words) (ltb-true (length words) to q), and-false)
      by false false p q e = let z : ◌≡◌ {A = ℕ} 0 1 = cc in absurd (omega arith)

  pub text-inside : (ltb to from || ltb (length words) to) ≡ false → (from ≤ to) × (to ≤ length words)
  text-inside = by (ltb to from) (ltb (length words) to) refl refl
    where
      by : (a b : Bool) → ltb to from ≡ a → ltb (length words) to ≡ b → (a || b) ≡ false → (from ≤ to) × (to ≤ length words)
      by true b p q e = let z : ◌≡◌ {A = ℕ} 0 1 = cc in absurd (omega arith)
      by false true p q e = let z : ◌≡◌ {A = ℕ} 0 1 = cc in absurd (omega arith)
      by false false p q e = (ltb-false to from p, ltb-false (length words) to q)

  pub text-there : (ltb to from || ltb (length words) to) ≡ false → (v : Result ⊤ IllFormed) → v ≡ validity_of (take (to - from) (drop from words))
      → is_valid v ≡ is_text words from to
  text-there t v e =
      let h = text-inside t in
      let p = part-clamped words from to {n = to} {m = from} (omega arith) (omega arith) in
      rw (le-leb from to h.0, le-leb to (length words) h.1, ← p, ← e)

-- what the code asks, and the definition
pub valid-told : (v : Result ⊤ IllFormed) → is_ok v ≡ is_valid v
valid-told (Ok x) = refl
valid-told (Err e) = refl

-- ---- months

module _ (months words : List ℕ) where
  pub count-not : (length months % 4 ≡ 0 → ⊥) → false ≡ are_months months words
  unfolding are_months
  count-not h = rw (ne_eqb (length months % 4) 0 h)

  pub count-whole : length months % 4 ≡ 0 → are_months months words ≡ every_month words (rows_of months)
  unfolding are_months
  count-whole h = rw (eq-eqb (length months % 4) 0 h)

-- ---- a value row

module _ (rows : List ℕ) (which : ℕ) where
  pub value_none : length rows / 4 ≤ which → false ≡ is_value (drop which (rows_of rows))
  unfolding is_value
  value_none h = rw (drop_of_length-le (rows_of rows) {i = which} (omega (arith, laid.rows-length rows)))

  pub value_there : which < length rows / 4 → eqb (get_or rows (which * 4) 0) 5 ≡ is_value (drop which (rows_of rows))
  unfolding is_value
  value_there h = rw (laid.rows-by which rows, laid.rows_next rows (which * 4) (omega arith))

-- ---- all of it

module _ (file rows months words : List ℕ) where
  pub lent-bad : is_err (check_of rows) ≡ true → false ≡ are_lent file rows months words
  unfolding are_lent
  lent-bad = by (are_rows rows)
    where
      by : (x : Bool) → is_err {T = ⊤} {E = Reason} (cond x (Ok tt) (Err BadRows)) ≡ true
          → false ≡ (x && (every_span file (rows_of rows) && are_months months words))
      by true e = absurd (false≢true e)
      by false e = refl

  pub lent-good : is_err (check_of rows) ≡ false → (every_span file (rows_of rows) && are_months months words) ≡ are_lent file rows months words
  unfolding are_lent
  lent-good = by (are_rows rows)
    where
      by : (x : Bool) → is_err {T = ⊤} {E = Reason} (cond x (Ok tt) (Err BadRows)) ≡ false
          → (every_span file (rows_of rows) && are_months months words) ≡ (x && (every_span file (rows_of rows) && are_months months words))
      by true e = refl
      by false e = absurd (false≢true (sym e))
