-- The contracts of `format_verbatim`, `to_biblatex_string` and `format_sentence` [01:Numbers a caller can get]: "Order: 1 for a file, 2, 17, .. then 16 exactly
-- if an answer exists and needs more rows or bytes than a lent output has. .. All output stays as it was on refusal; on success the room
-- past the answer stays as it was". 2 is at the first byte of the text's first ill-formed sequence, 17 and 16 at 0..0.
--     checked_of         the check: 2, then 17
--     Write              a writer's answer and what it leaves in the lent bytes
-- Assumes nothing.
use Rattle.text.specs.declared.utf8.IllFormed.{IllFormed}
use Rattle.row.specs.declared.fault.Fault.{Fault}
use Rattle.std.specs.Prelude.{ℕ, ◌≡◌, Bool, cond, List, ◌++◌, length, drop, leb, Result, Ok, Err, ⊤}
use Rattle.text.specs.Utf8.{validity_of}
use Rattle.row.specs.declared.fault.Reason.TheVariants.{NotUtf8, NoRoom, BadRows}
use Rattle.row.specs.Fault.{fault_at, nowhere}
use Rattle.chunk.specs.Chunk.{are_chunks, chunks_of}
use Rattle.chunk.specs.Format.{format_verbatim, to_biblatex_string}
use Rattle.chunk.specs.Sentence.{format_sentence}

-- ---- the check of the lent text t and the lent numbers l

abbrev pub rows_checked : List ℕ → List ℕ → Result ⊤ IllFormed → Result ⊤ Fault
rows_checked t l (Ok _) = cond (are_chunks t l) (Ok tt) (Err (nowhere BadRows))
rows_checked t l (Err n) = Err (fault_at NotUtf8 n.at)

unfoldable pub checked_of : List ℕ → List ℕ → Result ⊤ Fault
checked_of t l = rows_checked t l (validity_of t)

-- ---- a writer, by what the check says and what it has to write

-- the answer: the count; 16 where the lent bytes are fewer; or what the check refuses
abbrev pub writing_of : Result ⊤ Fault → List ℕ → ℕ → Result ℕ Fault
writing_of (Ok _) w size = cond (leb (length w) size) (Ok (length w)) (Err (nowhere NoRoom))
writing_of (Err f) w size = Err f

-- the lent bytes afterwards: the text, and behind it what they held there; or all as they were
abbrev pub written_into : Result ⊤ Fault → List ℕ → List ℕ → List ℕ
written_into (Ok _) w b = cond (leb (length w) (length b)) (w ++ drop (length w) b) b
written_into (Err f) w b = b

-- a writer of w over the lent bytes b answers r and leaves b'
pub record Write (c : Result ⊤ Fault) (w b : List ℕ) (r : Result ℕ Fault) (b' : List ℕ) : Type 0 where
  pub answer : r ≡ writing_of c w (length b)
  pub bytes : b' ≡ written_into c w b

-- ---- the calls, of the text t and the chunk rows in the numbers l

abbrev pub FormatVerbatim : List ℕ → List ℕ → List ℕ → Result ℕ Fault → List ℕ → Type 0
FormatVerbatim t l b r b' = Write (checked_of t l) (format_verbatim (chunks_of t l)) b r b'

abbrev pub ToBiblatexString : Bool → List ℕ → List ℕ → List ℕ → Result ℕ Fault → List ℕ → Type 0
ToBiblatexString verb t l b r b' = Write (checked_of t l) (to_biblatex_string verb (chunks_of t l)) b r b'

-- [02:1] "Refusals: 2, 17, then 16."
abbrev pub FormatSentence : List ℕ → List ℕ → List ℕ → Result ℕ Fault → List ℕ → Type 0
FormatSentence t l b r b' = Write (checked_of t l) (format_sentence (chunks_of t l)) b r b'
