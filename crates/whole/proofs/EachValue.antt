-- The call over a whole file answers for each value what `resolve_field` answers for it: `each-value`.
-- Assumes nothing.
use Rattle.std.specs.Prelude.{Ok}
use Prim.Native.Nat.{ℕ, zero, suc, ◌<◌}
use native.Mathlib.Omega.{arith}
use native.Mathlib.Numerals.{add-one}
use mathlib.Core.Path.{◌≡◌, refl, sym, ap, ◌∙◌}
use mathlib.Core.Bool.{Bool, true, false, cond}
use mathlib.Core.List.{List, [], ◌∷◌}
use lib.ListN.{length, get_or, drop}
use lib.Seq.{drop-nil, drop-drop}
use lib.Dec.{leb}
use Rattle.row.specs.declared.fault.Reason.TheVariants.{NoRoom, BadRows}
use Rattle.row.specs.Fault.{nowhere}
use Rattle.row.specs.Row.{Row}
use Rattle.row.specs.Numbers.{rows_of}
use Rattle.row.specs.Limits.{least_scratch}
use Rattle.resolve.specs.Resolves.{Value, refused, checked_file, after}
use Rattle.resolve.specs.Checks.{Lent, are_lent, is_value, is_right, lent_of}
use Rattle.values.specs.Field.{field_of}
use Rattle.fields.specs.OneField.{value_at}
use Rattle.whole.specs.WholeFile.{is_value_row, flag, results_from, results, values, all, all_of}
use Rattle.whole.specs.EachValue.{value_rows_from, value_rows, value_no, EachValue}
use Rattle.whole.proofs.values.RowByRow.{results-length}
use Rattle.whole.proofs.ways.FileWays.{asked_of}

-- ---- the values by their numbers

rows-length : (i : ℕ) (rs : List Row) → length (value_rows_from i rs) ≡ values rs
unfolding value_rows_from values
rows-length i [] = refl
rows-length i (r ∷ rs) = by (is_value_row r) (value_rows_from (suc i) rs) (rows-length (suc i) rs)
  where
    by : (x : Bool) (l : List ℕ) {n : ℕ} → length l ≡ n → length (cond x (i ∷ l) l) ≡ cond x (suc n) n
    by true l e = ap suc e
    by false l e = e

-- the flags behind the first
flags-on : (k : ℕ) (fs : List ℕ) → drop k (drop 1 fs) ≡ drop (suc k) fs
flags-on k [] = drop-nil k
flags-on k (f ∷ fs) = refl

result-at : (l : Lent) (i : ℕ) (fs : List ℕ) (rs : List Row) (k : ℕ) → k < values rs
    → value_no (results_from l i fs rs) k ≡ field_of l (flag (drop k fs)) (get_or (value_rows_from i rs) k 0)
unfolding value_rows_from results_from values
result-at l i fs [] k h = absurd (omega arith)
result-at l i fs (r ∷ rs) k h = by (is_value_row r) k (result-at l (suc i) (drop 1 fs) rs) (result-at l (suc i) fs rs) h
  where
    by : (x : Bool) (k : ℕ)
        → ((k : ℕ) → k < values rs → value_no (results_from l (suc i) (drop 1 fs) rs) k
        ≡ field_of l (flag (drop k (drop 1 fs))) (get_or (value_rows_from (suc i) rs) k 0))
        → ((k : ℕ) → k < values rs → value_no (results_from l (suc i) fs rs) k ≡ field_of l (flag (drop k fs)) (get_or (value_rows_from (suc i) rs) k 0))
        → k < cond x (suc (values rs)) (values rs)
        → value_no (cond x (field_of l (flag fs) i ∷ results_from l (suc i) (drop 1 fs) rs) (results_from l (suc i) fs rs)) k
        ≡ field_of l (flag (drop k fs)) (get_or (cond x (i ∷ value_rows_from (suc i) rs) (value_rows_from (suc i) rs)) k 0)
    by true zero g f h = refl
    by true (suc k) g f h =
        g k (omega arith) ∙ ap (λ (u : List ℕ). field_of l (flag u) (get_or (value_rows_from (suc i) rs) k 0)) (flags-on k fs)
    by false k g f h = f k h

-- ---- the rows are values

tail_of : (rs ss : List Row) (i : ℕ) (r : Row) → drop i rs ≡ r ∷ ss → drop (suc i) rs ≡ ss
tail_of rs ss i r e = ap (λ (n : ℕ). drop n rs) (sym (add-one i)) ∙ sym (drop-drop 1 i rs) ∙ ap (drop 1) e

row_at : (rs ss : List Row) (i k : ℕ) → drop i rs ≡ ss → k < values ss → is_value (drop (get_or (value_rows_from i ss) k 0) rs) ≡ true
unfolding value_rows_from values is_value
row_at rs [] i k e h = absurd (omega arith)
row_at rs (r ∷ ss) i k e h = by (is_value_row r) refl k (λ k. row_at rs ss (suc i) k (tail_of rs ss i r e)) h
  where
    by : (x : Bool) → is_value_row r ≡ x → (k : ℕ)
        → ((k : ℕ) → k < values ss → is_value (drop (get_or (value_rows_from (suc i) ss) k 0) rs) ≡ true)
        → k < cond x (suc (values ss)) (values ss)
        → is_value (drop (get_or (cond x (i ∷ value_rows_from (suc i) ss) (value_rows_from (suc i) ss)) k 0) rs) ≡ true
    by true y zero f h = ap is_value e ∙ y
    by true y (suc k) f h = f k (omega arith)
    by false y k f h = f k h

-- ---- the call

-- a call for one value, lent the same, passes its checks and comes to the value
value-is : (file rows months words : List ℕ) (i : ℕ) (verb : Bool) (w : ℕ) → checked_file file ≡ Ok tt → are_lent file rows months words ≡ true
    → leb least_scratch w ≡ true → is_value (drop i (rows_of rows)) ≡ true
    → field_of (lent_of file rows months words) verb i ≡ value_at file rows i verb months words w
value-is file rows months words i verb w p q r y = sym (same (field_of (lent_of file rows months words) verb i))
  where
    same : (v : Value)
        → after (checked_file file) (cond (is_right file rows i months words) (cond (leb least_scratch w) v (refused (nowhere NoRoom))) (refused (nowhere BadRows)))
        ≡ v
    same v = rw (p, q, y, r)

all-length : (l : Lent) (flags : List ℕ) → length (results l flags) ≡ values l.rows
all-length l flags = results-length l 0 flags l.rows

count-is : (file rows flags months words : List ℕ) (w : ℕ) (vs : List Value) → all_of file rows flags months words w ≡ all vs
    → length vs ≡ length (value_rows rows)
count-is file rows flags months words w vs e =
    let a = asked_of file rows flags months words w vs e in
    sym (ap length a.values-are) ∙ all-length (lent_of file rows months words) flags ∙ sym (rows-length 0 (rows_of rows))

value-below : (file rows flags months words : List ℕ) (w : ℕ) (vs : List Value) → all_of file rows flags months words w ≡ all vs
    → (k : ℕ) → k < length vs → k < values (rows_of rows)
value-below file rows flags months words w vs e k h =
    omega (arith, all-length (lent_of file rows months words) flags, ap length (asked_of file rows flags months words w vs e).values-are)

-- value k is what its row resolves to
pub field_is : (file rows flags months words : List ℕ) (w : ℕ) (vs : List Value) → all_of file rows flags months words w ≡ all vs
    → (k : ℕ) → k < length vs → value_no vs k ≡ field_of (lent_of file rows months words) (flag (drop k flags)) (get_or (value_rows rows) k 0)
field_is file rows flags months words w vs e k h =
    sym (ap (λ (us : List Value). value_no us k) (asked_of file rows flags months words w vs e).values-are)
    ∙ result-at (lent_of file rows months words) 0 flags (rows_of rows) k (value-below file rows flags months words w vs e k h)

each-is : (file rows flags months words : List ℕ) (w : ℕ) (vs : List Value) → all_of file rows flags months words w ≡ all vs
    → (k : ℕ) → k < length vs → value_no vs k ≡ value_at file rows (get_or (value_rows rows) k 0) (flag (drop k flags)) months words w
each-is file rows flags months words w vs e k h =
    let a = asked_of file rows flags months words w vs e in
    field_is file rows flags months words w vs e k h
    ∙ value-is file rows months words (get_or (value_rows rows) k 0) (flag (drop k flags)) w a.passed a.lent a.room
    (row_at (rows_of rows) (rows_of rows) 0 k refl (value-below file rows flags months words w vs e k h))

pub each-value : EachValue
each-value = record { count = count-is; value = each-is }
