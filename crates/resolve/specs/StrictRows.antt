-- What strict reading gives is never refused with 17 when it is resolved: its rows pass the row check, and their spans lie on character
-- boundaries of the file. The proof is `strict-rows` of proofs/StrictRows.antt.
-- Assumes nothing.
use Rattle.std.specs.Prelude.{ℕ, ◌≡◌, true, List, drop}
use Rattle.row.specs.Row.{Row, flat}
use Rattle.row.specs.Numbers.{are_rows}
use Rattle.raw.specs.Reader.{ok}
use Rattle.raw.specs.Read.{strict}
use Rattle.resolve.specs.Checks.{every_span, is_value, are_months, are_lent, is_right}

pub record StrictRows : Type 0 where
  pub rows : (file : List ℕ) (q : ℕ) (rs : List Row) → strict file ≡ ok q rs → are_rows (flat rs) ≡ true
  pub spans : (file : List ℕ) (q : ℕ) (rs : List Row) → strict file ≡ ok q rs → every_span file rs ≡ true
  -- with right month words, all that is lent passes the check, and any value row may be chosen
  pub lent : (file : List ℕ) (q : ℕ) (rs : List Row) (months words : List ℕ) → strict file ≡ ok q rs → are_months months words ≡ true
      → are_lent file (flat rs) months words ≡ true
  pub right : (file : List ℕ) (q : ℕ) (rs : List Row) (which : ℕ) (months words : List ℕ) → strict file ≡ ok q rs → are_months months words ≡ true
      → is_value (drop which rs) ≡ true → is_right file (flat rs) which months words ≡ true
