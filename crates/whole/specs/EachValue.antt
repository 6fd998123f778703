-- The call over a whole file answers for each value what `resolve_field` answers for it. The proof is `each-value` of proofs/EachValue.antt.
--     value_rows         the numbers of the rows that are values, in their order
--     EachValue          value k of the file is the one of value row k, with flag k
-- Assumes nothing.
use Rattle.std.specs.Prelude.{ℕ, suc, ◌<◌, ◌≡◌, cond, List, [], ◌∷◌, length, get_or, drop}
use Rattle.row.specs.declared.fault.Reason.TheVariants.{BadRows}
use Rattle.row.specs.Fault.{nowhere}
use Rattle.row.specs.Row.{Row}
use Rattle.row.specs.Numbers.{rows_of}
use Rattle.resolve.specs.Resolves.{Value, refused}
use Rattle.fields.specs.OneField.{value_at}
use Rattle.whole.specs.WholeFile.{is_value_row, flag, all, all_of}

-- the rows rs begin with row i
unfoldable pub value_rows_from : ℕ → List Row → List ℕ
value_rows_from i [] = []
value_rows_from i (r ∷ rs) = cond (is_value_row r) (i ∷ value_rows_from (suc i) rs) (value_rows_from (suc i) rs)

abbrev pub value_rows : List ℕ → List ℕ
value_rows rows = value_rows_from 0 (rows_of rows)

-- value k
abbrev pub value_no : List Value → ℕ → Value
value_no vs k = get_or vs k (refused (nowhere BadRows))

pub record EachValue : Type 0 where
  -- there is a value for each value row
  pub count : (file rows flags months words : List ℕ) (w : ℕ) (vs : List Value) → all_of file rows flags months words w ≡ all vs
      → length vs ≡ length (value_rows rows)
  pub value : (file rows flags months words : List ℕ) (w : ℕ) (vs : List Value) → all_of file rows flags months words w ≡ all vs
      → (k : ℕ) → k < length vs → value_no vs k ≡ value_at file rows (get_or (value_rows rows) k 0) (flag (drop k flags)) months words w
