-- The values row by row.
--     so-start                    before the first row
--     so-other, so-value          a row that is no value, and one that is
--     so-split, so-flag           a value row: the values before it, its value and those behind it make up all values; and its flag is there
--     so-end                      behind the last row
-- Assumes nothing.
use Prim.Native.Nat.{ℕ, suc, ◌+◌, ◌≤◌, ◌<◌}
use native.Mathlib.Omega.{arith}
use native.Mathlib.Numerals.{add-one}
use mathlib.Core.Path.{◌≡◌, refl, sym, ap, ◌∙◌}
use mathlib.Core.Bool.{Bool, true, false, cond}
use mathlib.Core.List.{List, [], ◌∷◌, ◌++◌, append_assoc, append-nil}
use lib.ListN.{length, drop, length-append, drop_of_length-le}
use lib.Seq.{drop-cons, drop-drop}
use Rattle.row.specs.Row.{Row, row_of}
use Rattle.lookup.specs.Names.{row_no}
use Rattle.resolve.specs.Resolves.{Value}
use Rattle.resolve.specs.Checks.{Lent}
use Rattle.values.specs.Field.{field_of}
use Rattle.whole.specs.declared.file.Totals.{Totals}
use Rattle.whole.specs.WholeFile.{is_value_row, flag, results_from, results, values}
use Rattle.whole.specs.Filing.{CountsAll, SoFar}

one_more_lem : (x : Bool) (v : Value) (vs ws : List Value) {n : ℕ} → length vs ≡ n → length ws ≡ n → length (cond x (v ∷ vs) ws) ≡ cond x (suc n) n
one_more_lem true v vs ws p q = ap suc p
one_more_lem false v vs ws p q = q

pub results-length : (l : Lent) (i : ℕ) (fs : List ℕ) (rs : List Row) → length (results_from l i fs rs) ≡ values rs
unfolding results_from values
results-length l i fs [] = refl
results-length l i fs (r ∷ rs) =
    one_more_lem (is_value_row r) (field_of l (flag fs) i) (results_from l (suc i) (drop 1 fs) rs) (results_from l (suc i) fs rs)
    (results-length l (suc i) (drop 1 fs) rs) (results-length l (suc i) fs rs)

module _ (l : Lent) (flags : List ℕ) where
  -- what the rows from row i on come to, where the values before it are vs
  abbrev rest : ℕ → List Value → List Value
  rest i vs = results_from l i (drop (length vs) flags) (drop i l.rows)

  -- the value of row i
  abbrev pub value_of : ℕ → List Value → Value
  value_of i vs = field_of l (flag (drop (length vs) flags)) i

  pub so-start : (t : Totals) → CountsAll [] t → SoFar l flags 0 [] t
  so-start t k = record { rest = refl; counts = k; few = omega arith }

  pub so-end : (i : ℕ) (vs : List Value) (t : Totals) → length l.rows ≤ i → SoFar l flags i vs t → vs ≡ results l flags
  unfolding results_from
  so-end i vs t h s =
      let e : rest i vs ≡ [] = rw (drop_of_length-le l.rows h) refl in
      sym (append-nil vs) ∙ ap (λ (ws : List Value). vs ++ ws) (sym e) ∙ s.rest

  module _ (i : ℕ) (vs : List Value) (t : Totals) (below : i < length l.rows) (s : SoFar l flags i vs t) where
    pub so-other : is_value_row (row_no l.rows i) ≡ false → SoFar l flags (i + 1) vs t
    unfolding results_from
    so-other n =
        let e : rest i vs ≡ rest (i + 1) vs = rw (add-one i, drop-cons l.rows i (row_of 0 0 0 0) below, n) refl in
        record { rest = ap (λ (ws : List Value). vs ++ ws) (sym e) ∙ s.rest; counts = s.counts; few = omega (arith, s.few) }

    module _ (y : is_value_row (row_no l.rows i) ≡ true) where
      flag-on : drop 1 (drop (length vs) flags) ≡ drop (length (vs ++ value_of i vs ∷ [])) flags
      flag-on = drop-drop 1 (length vs) flags ∙ ap (λ (n : ℕ). drop n flags) (sym (length-append vs (value_of i vs ∷ [])))

      rest-on : rest i vs ≡ value_of i vs ∷ rest (i + 1) (vs ++ value_of i vs ∷ [])
      unfolding results_from
      rest-on = rw (sym flag-on, add-one i, drop-cons l.rows i (row_of 0 0 0 0) below, y) refl

      pub so-split : (vs ++ value_of i vs ∷ []) ++ rest (i + 1) (vs ++ value_of i vs ∷ []) ≡ results l flags
      so-split =
          append_assoc vs (value_of i vs ∷ []) (rest (i + 1) (vs ++ value_of i vs ∷ []))
          ∙ ap (λ (ws : List Value). vs ++ ws) (sym rest-on)
          ∙ s.rest

      pub so-value : (r : Totals) → CountsAll (vs ++ value_of i vs ∷ []) r → SoFar l flags (i + 1) (vs ++ value_of i vs ∷ []) r
      so-value r k = record { rest = so-split; counts = k; few = omega (arith, s.few, length-append vs (value_of i vs ∷ [])) }

      pub so-flag : values l.rows ≤ length flags → length vs < length flags
      so-flag h =
          let ws = rest (i + 1) (vs ++ value_of i vs ∷ []) in
          omega (
            arith,
            results-length l 0 flags l.rows,
            ap length so-split,
            length-append (vs ++ value_of i vs ∷ []) ws,
            length-append vs (value_of i vs ∷ []),
          )
