-- What is lent with a file, and what resolving refuses with 17 [01:Rows and their packing].
--     Month, Lent             what is lent: the file, its rows, and the month words with their texts
--     months_of               month words with their texts in lent numbers and bytes, four numbers to a word
--     is_right                rows, chosen row and months are as resolving requires
-- Assumes nothing.
use Rattle.text.specs.declared.utf8.IllFormed.{IllFormed}
use Rattle.std.specs.Prelude.{ℕ, ◌%◌, Bool, true, false, ◌&&◌, List, [], ◌∷◌, map, length, drop, eqb, leb, Result, Ok, Err, ⊤}
use Rattle.text.specs.Utf8.{validity_of}
use Rattle.text.specs.Scan.{part}
use Rattle.text.specs.Every.{every}
use Rattle.row.specs.declared.form.Kind.TheVariants.{Value}
use Rattle.row.specs.Row.{Row}
use Rattle.row.specs.Rules.{is_kind}
use Rattle.row.specs.Numbers.{rows_of, are_rows}
use Rattle.resolve.specs.OneLiteral.{is_span}

-- [01:From file to field] "a list of month words with their texts, compared byte by byte"
pub record Month : Type 0 where
  pub word : List ℕ
  pub text : List ℕ

pub record Lent : Type 0 where
  pub file : List ℕ
  pub rows : List Row
  pub months : List Month

-- ---- rows

-- "a span reversed, outside the file or across a character"
abbrev pub every_span : List ℕ → List Row → Bool
every_span file rs = every (λ (r : Row). is_span file r.start r.end) rs

-- "a chosen row that is not there or no value"
unfoldable pub is_value : List Row → Bool
is_value [] = false
is_value (r ∷ rs) = is_kind Value r.kind

-- ---- months, four numbers to a word as to a row: where the word starts and ends, and where its text does

abbrev pub month_in : List ℕ → Row → Month
month_in words r = record { word = part words r.kind r.detail; text = part words r.start r.end }

abbrev pub months_of : List ℕ → List ℕ → List Month
months_of l words = map (month_in words) (rows_of l)

abbrev pub is_valid : Result ⊤ IllFormed → Bool
is_valid (Ok tt) = true
is_valid (Err n) = false

-- "a month word or text reversed, outside its lent bytes or not UTF-8"
abbrev pub is_text : List ℕ → ℕ → ℕ → Bool
is_text words a e = leb a e && (leb e (length words) && is_valid (validity_of (part words a e)))

abbrev pub is_month : List ℕ → Row → Bool
is_month words r = is_text words r.kind r.detail && is_text words r.start r.end

abbrev pub every_month : List ℕ → List Row → Bool
every_month words rs = every (is_month words) rs

-- "Input rows whose numbers are no whole count of rows are refused with 17 too": here, four numbers to a word
unfoldable pub are_months : List ℕ → List ℕ → Bool
are_months l words = eqb (length l % 4) 0 && every_month words (rows_of l)

-- ---- all of it

-- the rows and the months are right, whichever row is chosen
unfoldable pub are_lent : List ℕ → List ℕ → List ℕ → List ℕ → Bool
are_lent file rows months words = are_rows rows && (every_span file (rows_of rows) && are_months months words)

abbrev pub is_right : List ℕ → List ℕ → ℕ → List ℕ → List ℕ → Bool
is_right file rows which months words = are_lent file rows months words && is_value (drop which (rows_of rows))

abbrev pub lent_of : List ℕ → List ℕ → List ℕ → List ℕ → Lent
lent_of file rows months words = record { file = file; rows = rows_of rows; months = months_of months words }
