-- What a value resolves to depends on its own elements and their bytes, on the definitions and on the month words alone: whatever else stands
-- in the file or among the rows, such as the entries of other authors, changes nothing of it. The proof is `own-rows` of proofs/OwnRows.antt.
--     SpeltElement, value_in             the elements of a value, with their bytes
--     Definition, definitions_of         the definitions in the order of their rows, with their names' bytes and their elements
--     as_they_are, left_out              two ways to give a place: as it is, or left out
--     with_places                        what a value resolves to, with its places given in one of these ways
--     OwnRows                            the theorem, with places and without
-- Assumes nothing.
use Rattle.std.specs.Prelude.{ℕ, suc, ◌≡◌, Bool, cond, List, [], ◌∷◌, map, drop}
use Rattle.row.specs.declared.form.Kind.TheVariants.{DefinitionName}
use Rattle.row.specs.declared.fault.Fault.{Fault}
use Rattle.row.specs.Row.{Row}
use Rattle.row.specs.Rules.{is_kind}
use Rattle.chunk.specs.Chunk.{Chunk, chunk}
use Rattle.resolve.specs.Resolves.{Value, resolved, refused}
use Rattle.resolve.specs.Checks.{Lent}
use Rattle.values.specs.Field.{elements, spelt, field_of}

-- ---- places. What stands in front of an element moves it: so elements, and what they resolve to, are compared with their places or without

abbrev pub as_they_are : ℕ → ℕ
as_they_are place = place

abbrev pub left_out : ℕ → ℕ
left_out place = 0

-- ---- elements and definitions, with the bytes of their rows

pub record SpeltElement : Type 0 where
  pub kind : ℕ
  pub bytes : List ℕ
  pub start : ℕ
  pub end : ℕ

abbrev pub element_in : (ℕ → ℕ) → Lent → Row → SpeltElement
element_in tell l r = record { kind = r.kind; bytes = spelt l r; start = tell r.start; end = tell r.end }

abbrev pub elements_in : (ℕ → ℕ) → Lent → List Row → List SpeltElement
elements_in tell l rs = map (element_in tell l) (elements rs)

-- the value whose row is number i
abbrev pub value_in : (ℕ → ℕ) → Lent → ℕ → List SpeltElement
value_in tell l i = elements_in tell l (drop (suc i) l.rows)

pub record Definition : Type 0 where
  pub name : List ℕ
  pub value : List SpeltElement

-- a definition's row, and the rows behind it: its value row and the elements
abbrev pub definition_in : (ℕ → ℕ) → Lent → Row → List Row → Definition
definition_in tell l r rs = record { name = spelt l r; value = elements_in tell l (drop 1 rs) }

unfoldable pub definitions_from : (ℕ → ℕ) → Lent → List Row → List Definition
definitions_from tell l [] = []
definitions_from tell l (r ∷ rs) =
    cond (is_kind DefinitionName r.kind) (definition_in tell l r rs ∷ definitions_from tell l rs) (definitions_from tell l rs)

abbrev pub definitions_of : (ℕ → ℕ) → Lent → List Definition
definitions_of tell l = definitions_from tell l l.rows

-- ---- what a value resolves to

abbrev pub chunk_with : (ℕ → ℕ) → Chunk → Chunk
chunk_with tell c = chunk c.kind c.text (tell c.start) (tell c.end)

abbrev pub fault_with : (ℕ → ℕ) → Fault → Fault
fault_with tell f = record { reason = f.reason; start = tell f.start; end = tell f.end }

abbrev pub with_places : (ℕ → ℕ) → Value → Value
with_places tell (resolved cs n) = resolved (map (chunk_with tell) cs) n
with_places tell (refused f) = refused (fault_with tell f)

-- ---- the theorem

-- value i of one file and value j of another, or of the same one, have the same elements, and the files the same definitions and months
pub record Alike (tell : ℕ → ℕ) (l l' : Lent) (i j : ℕ) : Type 0 where
  pub months : l.months ≡ l'.months
  pub definitions : definitions_of tell l ≡ definitions_of tell l'
  pub value : value_in tell l i ≡ value_in tell l' j

pub record OwnRows : Type 0 where
  -- values that are alike resolve to the same
  pub same : (l l' : Lent) (verb : Bool) (i j : ℕ) → Alike as_they_are l l' i j → field_of l verb i ≡ field_of l' verb j
  -- values that are alike but for their places, or those of the definitions, resolve to the same but for the places: to the same kinds and texts
  -- of chunks and the same number of names, or to a refusal with the same reason
  pub elsewhere : (l l' : Lent) (verb : Bool) (i j : ℕ) → Alike left_out l l' i j → with_places left_out (field_of l verb i) ≡ with_places left_out (field_of l' verb j)
