-- Numbers as rows, four to a row, and the contract of the row check [01:Rows and their packing]: "The row check, after a field name,
-- takes the next row as a value row, or refuses with 17"; "rows whose numbers are no whole count of rows are refused with 17 too".
--     rows_of               numbers taken as rows, four by four
--     are_rows, check_of    what `check` answers
--     await_of, state_of    the code's words for what may come next, and `Rules`' words
-- Assumes nothing.
use Rattle.row.specs.declared.fault.Reason.TheVariants.{BadRows}
use Rattle.row.specs.declared.fault.Reason.{Reason}
use Rattle.std.specs.Prelude.{ℕ, ◌+◌, ◌%◌, Bool, cond, ◌&&◌, List, [], ◌∷◌, length, eqb, Option, Some, None, Result, Ok, Err, ⊤}
use Rattle.row.specs.declared.form.Kind.TheVariants.{Value}
use Rattle.row.specs.declared.check.State.{State}
use Rattle.row.specs.declared.check.State.TheVariants as state
use Rattle.row.specs.Row.{Row}
use Rattle.row.specs.Rules.{Await, part, type, key, value, chunk, chunks, cause, wrong, is_kind, whole, is_rows}

-- numbers past the last whole row are left out
unfoldable pub rows_of : List ℕ → List Row
rows_of [] = []
rows_of (a ∷ []) = []
rows_of (a ∷ b ∷ []) = []
rows_of (a ∷ b ∷ c ∷ []) = []
rows_of (a ∷ b ∷ c ∷ d ∷ l) = record { kind = a; detail = b; start = c; end = d } ∷ rows_of l

unfoldable pub are_rows : List ℕ → Bool
are_rows l = eqb (length l % 4) 0 && is_rows (rows_of l)

abbrev pub check_of : List ℕ → Result ⊤ Reason
check_of l = cond (are_rows l) (Ok tt) (Err BadRows)

-- ---- the code's words

abbrev pub await_of : State → Await
await_of (state.Part f) = part f
await_of state.Type = type
await_of state.Key = key
await_of (state.Value f) = value f
await_of (state.Chunk f) = chunk f
await_of (state.Chunks f) = chunks f
await_of state.Cause = cause
await_of state.Wrong = wrong

abbrev pub state_of : Await → State
state_of (part f) = state.Part f
state_of type = state.Type
state_of key = state.Key
state_of (value f) = state.Value f
state_of (chunk f) = state.Chunk f
state_of (chunks f) = state.Chunks f
state_of cause = state.Cause
state_of wrong = state.Wrong

abbrev pub whole_of : State → Bool
whole_of s = whole (await_of s)

abbrev pub or_wrong : Bool → State → State
or_wrong b s = cond b s state.Wrong

-- the rows stand from number i on: whether the first is a value row, and the number behind it
unfoldable pub found_of : ℕ → List Row → Option ℕ
found_of i [] = None
found_of i (r ∷ rs) = cond (is_kind Value r.kind && eqb r.detail 0) (Some (i + 4)) None
