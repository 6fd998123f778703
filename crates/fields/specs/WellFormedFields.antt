-- What a field is resolved into is well-formed: its text is UTF-8, and the rows of its chunks have text ranges on character boundaries, so
-- that the writers never refuse them. The proof is `well-formed-fields` of proofs/WellFormedFields.antt.
-- Assumes nothing.
use Rattle.std.specs.Prelude.{ℕ, ◌≡◌, Bool, true, List, Ok}
use Rattle.text.specs.Utf8.{Octets}
use Rattle.chunk.specs.Chunk.{Chunk}
use Rattle.chunk.specs.WellFormed.{TextsUtf8}
use Rattle.literal.specs.WellFormed.{Passes}
use Rattle.resolve.specs.Resolves.{resolved, checked_file}
use Rattle.resolve.specs.OneLiteral.{literal_of}
use Rattle.resolve.specs.Checks.{are_lent, lent_of}
use Rattle.values.specs.Field.{field_of}
use Rattle.fields.specs.OneField.{value_at}

pub record WellFormedFields : Type 0 where
  -- a file that passes the check is UTF-8
  pub file : (file : List ℕ) → checked_file file ≡ Ok tt → Octets file
  -- where the file is UTF-8 and what is lent with it passes the check, the text of each chunk of a field is UTF-8, be it of a literal of the
  -- field, of a definition or of a month word
  pub texts : (file rows months words : List ℕ) (verb : Bool) (i n : ℕ) (cs : List Chunk) → Octets file → are_lent file rows months words ≡ true
      → field_of (lent_of file rows months words) verb i ≡ resolved cs n → TextsUtf8 cs
  -- the writers never refuse such a field
  pub passes : (file rows months words : List ℕ) (verb : Bool) (i n : ℕ) (cs : List Chunk) → Octets file → are_lent file rows months words ≡ true
      → field_of (lent_of file rows months words) verb i ≡ resolved cs n → Passes cs
  -- what a call resolves is well-formed, whatever the call was lent: where its checks do not pass, it refuses
  pub field : (file rows : List ℕ) (which : ℕ) (verb : Bool) (months words : List ℕ) (w n : ℕ) (cs : List Chunk)
      → value_at file rows which verb months words w ≡ resolved cs n → Passes cs
  pub literal : (file : List ℕ) (a e : ℕ) (verb : Bool) (w n : ℕ) (cs : List Chunk) → literal_of file a e verb w ≡ resolved cs n → Passes cs
