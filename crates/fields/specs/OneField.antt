-- The value whose row is number `which`: the call `resolve_field`.
--     value_at       what the call comes to
--     Resolving      what is required where a value is counted or written
-- Assumes nothing.
use Rattle.std.specs.Prelude.{ℕ, ◌/◌, ◌<◌, Bool, List, length}
use Rattle.resolve.specs.Progress.{ReadyTables}
use Rattle.resolve.specs.Resolves.{Value, asked}
use Rattle.resolve.specs.Checks.{is_right, lent_of}
use Rattle.values.specs.declared.resolver.Resolver.{Resolver}
use Rattle.values.specs.Field.{field_of}
use Rattle.values.specs.Uses.{IndexOf}

-- what the call comes to for a file with its rows, the month words, and a scratch of w bytes
abbrev pub value_at : List ℕ → List ℕ → ℕ → Bool → List ℕ → List ℕ → ℕ → Value
value_at file rows which verb months words w =
    asked file (is_right file rows which months words) w (field_of (lent_of file rows months words) verb which)

-- what is required where the value of row i is counted or written, with a scratch w
pub record Resolving (r : Resolver) (i : ℕ) (w : List ℕ) : Type 0 where
  pub index : IndexOf r
  pub ready : ReadyTables w r.tables.names.now r.tables.marks.now
  pub which : i < length r.rows.now / 4
