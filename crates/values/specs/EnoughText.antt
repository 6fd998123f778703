-- How much text a value can need: at most twice the bytes of all literals of the file, and the texts of all month words, once for the value and
-- once for each name that it resolves. The proof is `enough-text` of proofs/EnoughText.antt.
-- Assumes nothing.
use Rattle.std.specs.Prelude.{ℕ, suc, ◌+◌, ◌-◌, ◌*◌, ◌≤◌, ◌≡◌, Bool, cond, List, [], ◌∷◌, length}
use Rattle.row.specs.declared.form.Kind.TheVariants.{Literal}
use Rattle.row.specs.Row.{Row}
use Rattle.row.specs.Rules.{is_kind}
use Rattle.chunk.specs.Chunk.{Chunk}
use Rattle.literal.specs.Rows.{texts_of}
use Rattle.resolve.specs.Resolves.{resolved}
use Rattle.resolve.specs.Checks.{Month, Lent}
use Rattle.values.specs.Field.{field_of}

-- the bytes of the literals among the rows
unfoldable pub literal_bytes : List Row → ℕ
literal_bytes [] = 0
literal_bytes (r ∷ rs) = cond (is_kind Literal r.kind) (r.end - r.start) 0 + literal_bytes rs

-- the bytes of the texts of month words
unfoldable pub month_bytes : List Month → ℕ
month_bytes [] = 0
month_bytes (m ∷ ms) = length m.text + month_bytes ms

-- the most text that a value needs for itself, and for each name that it resolves
abbrev pub most : Lent → ℕ
most l = 2 * literal_bytes l.rows + month_bytes l.months

pub record EnoughText : Type 0 where
  pub value : (l : Lent) (verb : Bool) (i n : ℕ) (cs : List Chunk) → field_of l verb i ≡ resolved cs n → length (texts_of cs) ≤ suc n * most l
