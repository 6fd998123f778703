-- A value that is one literal. The proof is `only-literal` of proofs/OnlyLiteral.antt.
-- Assumes nothing.
use Rattle.std.specs.Prelude.{ℕ, ◌%◌, ◌≤◌, ◌≡◌, Bool, true, List, length, drop, Some}
use Rattle.text.specs.Scan.{part}
use Rattle.row.specs.Numbers.{rows_of}
use Rattle.literal.specs.Literal.{resolve_literal}
use Rattle.resolve.specs.OneLiteral.{value_of}
use Rattle.resolve.specs.Checks.{Lent, are_lent}
use Rattle.values.specs.Field.{flattened, of_run}
use Rattle.values.specs.Uses.{only_at, value_from}

-- of a value whose elements begin with number i of the rows, and are one literal from a to e
pub record OnlyLiteral : Type 0 where
  -- the literal lies in the file
  pub inside : (file rows months words : List ℕ) (i a e : ℕ) → are_lent file rows months words ≡ true → i % 4 ≡ 0 → only_at rows i ≡ Some (a, e)
      → (a ≤ e) × (e ≤ length file)
  -- the value resolves to what the literal resolves to
  pub value : (l : Lent) (verb : Bool) (left : ℕ) (path rows : List ℕ) (i a e : ℕ) → only_at rows i ≡ Some (a, e)
      → of_run (flattened (value_from l verb left path (rows_of (drop i rows)) 0)) ≡ value_of (resolve_literal verb (part l.file a e) a)
