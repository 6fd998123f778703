-- Which refusals the writers can answer [01:Numbers a caller can get], and their places. The proof is `refusals` of proofs/Refusals.antt.
-- Assumes nothing.
use Rattle.std.specs.Prelude.{ℕ, ◌<◌, ◌≡◌, ◌↔◌, Bool, false, List, length, Result, Ok, Err}
use Rattle.text.specs.Utf8.{validity_of}
use Rattle.row.specs.declared.fault.Reason.TheVariants.{NotUtf8, NoRoom, BadRows}
use Rattle.row.specs.declared.fault.Fault.{Fault}
use Rattle.row.specs.Fault.{fault_at, nowhere, Answered}
use Rattle.chunk.specs.Chunk.{are_chunks}
use Rattle.chunk.specs.Write.{FormatVerbatim, ToBiblatexString, FormatSentence}

-- the refusals for the text t and the numbers l: 2 at the first ill-formed sequence of the text, 17 and 16 at 0..0
pub data WriteFault (t l : List ℕ) : Fault → Type 0 where
  ill-formed : (n : ℕ) → validity_of t ≡ Err (record { at = n }) → WriteFault t l (fault_at NotUtf8 n)
  bad-chunks : are_chunks t l ≡ false → WriteFault t l (nowhere BadRows)
  full : WriteFault t l (nowhere NoRoom)

pub record Refusals : Type 0 where
  -- `format_verbatim`, `to_biblatex_string` and `format_sentence` answer no other refusals
  pub formats : (t l b b' : List ℕ) (f : Fault) → FormatVerbatim t l b (Err f) b' → WriteFault t l f
  pub writes : (verb : Bool) (t l b b' : List ℕ) (f : Fault) → ToBiblatexString verb t l b (Err f) b' → WriteFault t l f
  pub sentences : (t l b b' : List ℕ) (f : Fault) → FormatSentence t l b (Err f) b' → WriteFault t l f
  -- "then 16 exactly if an answer exists and needs more rows or bytes than a lent output has"
  pub formats-full : (t l b b' : List ℕ) (r : Result ℕ Fault) → FormatVerbatim t l b r b' →
      (r ≡ Err (nowhere NoRoom)) ↔ ((n : ℕ) × Answered (FormatVerbatim t l) (Ok n) × (length b < n))
  pub writes-full : (verb : Bool) (t l b b' : List ℕ) (r : Result ℕ Fault) → ToBiblatexString verb t l b r b' →
      (r ≡ Err (nowhere NoRoom)) ↔ ((n : ℕ) × Answered (ToBiblatexString verb t l) (Ok n) × (length b < n))
  pub sentences-full : (t l b b' : List ℕ) (r : Result ℕ Fault) → FormatSentence t l b r b' →
      (r ≡ Err (nowhere NoRoom)) ↔ ((n : ℕ) × Answered (FormatSentence t l) (Ok n) × (length b < n))
