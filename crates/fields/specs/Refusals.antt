-- Which refusals the call `resolve_field` can answer [01:Numbers a caller can get], and their places. The proof is `refusals` of
-- proofs/Refusals.antt.
-- Assumes nothing.
use Rattle.resolve.specs.declared.answer.Chunks.{Chunks}
use Rattle.std.specs.Prelude.{ℕ, ◌≡◌, ◌↔◌, Bool, List, length, Result, Err}
use Rattle.row.specs.declared.fault.Fault.{Fault}
use Rattle.row.specs.declared.fault.Reason.TheVariants.{NoRoom}
use Rattle.row.specs.Fault.{nowhere}
use Rattle.resolve.specs.Resolves.{Resolves}
use Rattle.resolve.specs.Checks.{is_right, lent_of}
use Rattle.resolve.specs.Refusals.{CallFault, FullCall, NeedsMore}
use Rattle.values.specs.Field.{field_of}
use Rattle.values.specs.Refusals.{FieldFault}
use Rattle.fields.specs.OneField.{value_at}

pub record Refusals : Type 0 where
  -- `resolve_field` answers those of a call, and those that the value of the row can come to
  pub field : (file rows : List ℕ) (which : ℕ) (verb : Bool) (months words w b t w' b' t' : List ℕ) (f : Fault)
      → Resolves (value_at file rows which verb months words (length w)) w b t (Err f) w' b' t'
      → CallFault file (is_right file rows which months words) (FieldFault (lent_of file rows months words) verb which) f
  -- and 16 exactly if the scratch is too small, or an answer exists and needs more than is lent
  pub field-full : (file rows : List ℕ) (which : ℕ) (verb : Bool) (months words w b t w' b' t' : List ℕ) (r : Result Chunks Fault)
      → Resolves (value_at file rows which verb months words (length w)) w b t r w' b' t'
      → (r ≡ Err (nowhere NoRoom))
      ↔ FullCall file (is_right file rows which months words) (length w) (NeedsMore (field_of (lent_of file rows months words) verb which) b t)
