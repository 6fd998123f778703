-- Which refusals the call `resolve_file` can answer for itself and for each value [01:Numbers a caller can get], and their places. The proof is
-- `refusals` of proofs/Refusals.antt.
--     LacksAll, NeedsMoreAll      what the values need and is not lent
--     Refusals                    the refusals of the call and of each value
-- Assumes nothing.
use Rattle.whole.specs.declared.file.Filed.{Filed}
use Rattle.std.specs.Prelude.{ℕ, ◌/◌, ◌<◌, ◌≡◌, ◌↔◌, ◌⊎◌, List, length, get_or, drop, Result, Err}
use Rattle.row.specs.declared.fault.Fault.{Fault}
use Rattle.row.specs.declared.fault.Reason.TheVariants.{NoRoom}
use Rattle.row.specs.Fault.{nowhere}
use Rattle.literal.specs.Rows.{most_number}
use Rattle.resolve.specs.Resolves.{Value, refused}
use Rattle.resolve.specs.Checks.{lent_of}
use Rattle.resolve.specs.Refusals.{CallFault, FullCall}
use Rattle.values.specs.Refusals.{FieldFault}
use Rattle.whole.specs.WholeFile.{flag, results, texts, count_rows, all, are_filed, all_of, ResolvesFile}
use Rattle.whole.specs.EachValue.{value_rows, value_no}

-- the values need more answers, chunk rows or bytes of text than q, b and t have
abbrev pub LacksAll : List Value → List ℕ → List ℕ → List ℕ → Type 0
LacksAll vs q b t = (length q / 6 < length vs) ⊎ ((length b / 5 < count_rows vs) ⊎ (length t < length (texts vs)))

-- or the numbers of an answer row, which have 32 bits, do not reach to the end of the chunk rows or of the text: no room is enough for that
abbrev pub NeedsMoreAll : List Value → List ℕ → List ℕ → List ℕ → Type 0
NeedsMoreAll vs q b t = ((most_number < count_rows vs) ⊎ (most_number < length (texts vs))) ⊎ LacksAll vs q b t

pub record Refusals : Type 0 where
  -- the call itself answers 1, 2, 17 and 16 alone: what its work meets is the answer of a value
  pub file : (file rows flags months words w h x q b t w' h' x' q' b' t' : List ℕ) (f : Fault)
      → ResolvesFile (all_of file rows flags months words (length w)) w h x q b t (Err f) w' h' x' q' b' t'
      → CallFault file (are_filed file rows flags months words) (λ g. ⊥) f
  -- 16 exactly if the scratch is too small, or the answers need more than is lent
  pub file-full : (file rows flags months words w h x q b t w' h' x' q' b' t' : List ℕ) (r : Result Filed Fault)
      → ResolvesFile (all_of file rows flags months words (length w)) w h x q b t r w' h' x' q' b' t'
      → (r ≡ Err (nowhere NoRoom))
      ↔ FullCall file (are_filed file rows flags months words) (length w) (NeedsMoreAll (results (lent_of file rows months words) flags) q b t)
  -- value k, if it is refused, is so as the value of its row can be
  pub values : (file rows flags months words : List ℕ) (w : ℕ) (vs : List Value) → all_of file rows flags months words w ≡ all vs
      → (k : ℕ) → k < length vs → (f : Fault) → value_no vs k ≡ refused f
      → FieldFault (lent_of file rows months words) (flag (drop k flags)) (get_or (value_rows rows) k 0) f
