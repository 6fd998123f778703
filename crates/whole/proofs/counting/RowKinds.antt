-- Value rows and flags by their numbers.
--     inside, past                  a row's number is below the number of rows, or not
--     kind-of                       `is_value`
--     values-on, values_other, values-end      `values`: one row more, and the end
--     flag-of                       `flag_at`
-- Assumes nothing.
use Prim.Native.Nat.{ℕ, suc, ◌+◌, ◌*◌, ◌/◌, ◌≤◌, ◌<◌}
use native.Mathlib.Omega.{arith}
use native.Mathlib.Numerals.{add-one}
use mathlib.Core.Path.{◌≡◌, sym, ap, ◌∙◌}
use mathlib.Core.Bool.{Bool, true, false, cond, not}
use mathlib.Core.List.{List}
use lib.ListN.{length, get_or, drop, drop_of_length-le}
use lib.Seq.{drop-cons}
use lib.Dec.{eqb}
use Rattle.row.specs.Row.{Row, row_of}
use Rattle.row.specs.Numbers.{rows_of}
use Rattle.row.proofs.Laid.{laid}
use Rattle.lookup.specs.Names.{row_no}
use Rattle.lookup.proofs.Lookup.{lookup}
use Rattle.whole.specs.WholeFile.{is_value_row, flag, values}

-- ---- a row

pub inside : (rows : List ℕ) (i : ℕ) → i < length rows / 4 → i < length (rows_of rows)
inside rows i h = omega (arith, laid.rows-length rows)

pub past : (rows : List ℕ) (i : ℕ) → length rows / 4 ≤ i → length (rows_of rows) ≤ i
past rows i h = omega (arith, laid.rows-length rows)

pub kind-of : (rows : List ℕ) (i : ℕ) → i < length rows / 4 → eqb (get_or rows (i * 4) 0) 5 ≡ is_value_row (row_no (rows_of rows) i)
kind-of rows i h = sym (ap is_value_row (lookup.row-no rows i h))

-- ---- how many rows are values

module _ (rs : List Row) (i : ℕ) where
  module _ (n : ℕ) (s : n + values (drop i rs) ≡ values rs) where
    module _ (h : i < length rs) where
      turn : values (drop i rs) ≡ cond (is_value_row (row_no rs i)) (suc (values (drop (i + 1) rs))) (values (drop (i + 1) rs))
      unfolding values
      turn = rw (add-one i, drop-cons rs i (row_of 0 0 0 0) h)

      module _ (w : Bool) (e : w ≡ is_value_row (row_no rs i)) where
        abbrev rest : Bool → ℕ
        rest b = cond b (suc (values (drop (i + 1) rs))) (values (drop (i + 1) rs))

        pub values-on : w ≡ true → n + 1 + values (drop (i + 1) rs) ≡ values rs
        values-on y = omega (arith, s, turn ∙ ap rest (sym e ∙ y))

        pub values_other : w ≡ false → n + values (drop (i + 1) rs) ≡ values rs
        values_other y = omega (arith, s, turn ∙ ap rest (sym e ∙ y))

    pub values-end : length rs ≤ i → n ≡ values rs
    unfolding values
    values-end h = omega (arith, s, ap values (drop_of_length-le rs h))

-- ---- a flag

pub flag-of : (flags : List ℕ) (k : ℕ) → k < length flags → not (eqb (get_or flags k 0) 0) ≡ flag (drop k flags)
flag-of flags k h = rw (drop-cons flags k 0 h)
