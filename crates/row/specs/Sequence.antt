-- The row rules of 01 as a grammar, and that the row check `is_rows` accepts exactly its sequences: `Check`, whose proof is `check`
-- of proofs/Sequence.antt. [01:Rows and their packing] "the sequence is made of: 1, 2, 3, then per field 4, 5 and at least one of 6
-- or 7; 8, 5 and at least one of 6 or 7; 0 alone; 9 then 10. Detail is 0, but in kind 10 a number from 2 to 10."
-- Assumes nothing.
use Rattle.std.specs.Prelude.{◌≤◌, ◌≡◌, ◌↔◌, true, List, [], ◌∷◌, ◌++◌}
use Rattle.row.specs.declared.form.Kind.{Kind}
use Rattle.row.specs.declared.form.Kind.TheVariants as kind
use Rattle.row.specs.Row.{Row, kind_of}
use Rattle.row.specs.Rules.{is_rows}

-- "Detail is 0"
pub record Plain (k : Kind) (r : Row) : Type 0 where
  pub is : r.kind ≡ kind_of k
  pub zero : r.detail ≡ 0

-- "but in kind 10 a number from 2 to 10"
pub record Cause (r : Row) : Type 0 where
  pub is : r.kind ≡ kind_of kind.Cause
  pub least : 2 ≤ r.detail
  pub most : r.detail ≤ 10

-- "at least one of 6 or 7"
pub data Element : Row → Type 0 where
  literal : {r : Row} → Plain kind.Literal r → Element r
  name : {r : Row} → Plain kind.Name r → Element r

pub data Elements : List Row → Type 0 where
  one : {r : Row} → Element r → Elements (r ∷ [])
  more : {r : Row} {rs : List Row} → Element r → Elements rs → Elements (r ∷ rs)

-- "4, 5 and at least one of 6 or 7"; "8, 5 and at least one of 6 or 7"
pub data Named (k : Kind) : List Row → Type 0 where
  named : {n v : Row} {rs : List Row} → Plain k n → Plain kind.Value v → Elements rs → Named k (n ∷ v ∷ rs)

-- "per field"
pub data Fields : List Row → Type 0 where
  none : Fields []
  field : {f rs : List Row} → Named kind.FieldName f → Fields rs → Fields (f ++ rs)

pub data Item : List Row → Type 0 where
  -- "1, 2, 3, then per field 4, 5 .."
  entry : {e t k : Row} {fs : List Row} → Plain kind.Entry e → Plain kind.EntryType t → Plain kind.Key k → Fields fs → Item (e ∷ t ∷ k ∷ fs)
  -- "8, 5 and at least one of 6 or 7"
  definition : {d : List Row} → Named kind.DefinitionName d → Item d
  -- "0 alone"
  preamble : {r : Row} → Plain kind.Preamble r → Item (r ∷ [])
  -- "9 then 10"
  damage : {d c : Row} → Plain kind.Damage d → Cause c → Item (d ∷ c ∷ [])

-- "the sequence is made of"
pub data Sequence : List Row → Type 0 where
  none : Sequence []
  part : {p rs : List Row} → Item p → Sequence rs → Sequence (p ++ rs)

pub record Check : Type 0 where
  pub accepts : (rs : List Row) → (is_rows rs ≡ true) ↔ Sequence rs
