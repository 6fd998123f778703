-- What strict reading gives is never refused with 17 when it is resolved: `strict-rows`.
-- Assumes nothing.
use Prim.Native.Nat.{ℕ, ◌*◌, ◌%◌}
use native.Mathlib.Omega.{arith}
use mathlib.Core.Path.{◌≡◌, refl}
use mathlib.Core.Bool.{true}
use mathlib.Core.List.{List, [], ◌∷◌}
use lib.ListN.{length, drop}
use borrow.Author.Tests.{le-leb, eq-eqb}
use Rattle.text.specs.Every.{every}
use Rattle.row.specs.Row.{Row, flat}
use Rattle.row.specs.Numbers.{are_rows}
use Rattle.row.proofs.Laid.{laid}
use Rattle.raw.specs.Reader.{ok}
use Rattle.raw.specs.Read.{strict}
use Rattle.raw.specs.Strict.{Spans}
use Rattle.raw.proofs.Strict.{strict-reading}
use Rattle.resolve.specs.Checks.{every_span, is_value, are_months, are_lent, is_right}
use Rattle.resolve.specs.StrictRows.{StrictRows}

module _ (file : List ℕ) (q : ℕ) (rs : List Row) (e : strict file ≡ ok q rs) where
  rows_pass : are_rows (flat rs) ≡ true
  unfolding are_rows
  rows_pass = rw (laid.rows-flat rs, (strict-reading.accepts file q rs e).rules, eq-eqb (length (flat rs) % 4) 0 (fours (length rs) (laid.flat-length rs))) refl
    where
      fours : {k : ℕ} (n : ℕ) → k ≡ n * 4 → k % 4 ≡ 0
      fours n e = omega arith

  spans-pass : every_span file rs ≡ true
  unfolding every Spans
  spans-pass = each rs (strict-reading.accepts file q rs e).spans
    where
      each : (rs : List Row) → Spans file rs → every_span file rs ≡ true
      each [] h = refl
      each (r ∷ rs) h = rw (le-leb r.start r.end h.0.order, h.0.starts, h.0.ends) (each rs h.1)

  lent-passes : (months words : List ℕ) → are_months months words ≡ true → are_lent file (flat rs) months words ≡ true
  unfolding are_lent
  lent-passes months words m = rw (rows_pass, laid.rows-flat rs, spans-pass, m) refl

  choice-passes : (which : ℕ) (months words : List ℕ) → are_months months words ≡ true → is_value (drop which rs) ≡ true
      → is_right file (flat rs) which months words ≡ true
  choice-passes which months words m v = rw (lent-passes months words m, laid.rows-flat rs, v) refl

pub strict-rows : StrictRows
strict-rows = record {
  rows = rows_pass;
  spans = spans-pass;
  lent = λ file q rs months words e. lent-passes file q rs e months words;
  right = λ file q rs which months words e. choice-passes file q rs e which months words;
}
