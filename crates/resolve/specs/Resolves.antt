-- What a resolving call comes to over lent outputs.
--     Value                        chunks with the number of names resolved, or a refusal. Nothing is said of buffers
--     roomy, fits, told, rows_left, text_left, Resolves
--                                  the answer, and what the lent numbers, bytes and scratch then hold
--     asked                        the checks that every call makes first
-- Assumes nothing.
use Rattle.text.specs.declared.utf8.IllFormed.{IllFormed}
use Rattle.resolve.specs.declared.answer.Chunks.{Chunks}
use Rattle.std.specs.Prelude.{ℕ, ◌*◌, ◌/◌, ◌≡◌, Bool, cond, ◌&&◌, List, ◌++◌, length, drop, replicate, leb, Result, Ok, Err, ⊤}
use Rattle.text.specs.Utf8.{validity_of}
use Rattle.row.specs.declared.fault.Fault.{Fault}
use Rattle.row.specs.declared.fault.Reason.TheVariants.{TooLong, NotUtf8, NoRoom, BadRows}
use Rattle.row.specs.Fault.{fault_at, nowhere}
use Rattle.row.specs.Limits.{most_bytes, least_scratch}
use Rattle.chunk.specs.Chunk.{Chunk, flat_chunks}
use Rattle.literal.specs.Rows.{most_number, rows_from, texts_of}

-- the chunks, flattened, and the number of names resolved; or a refusal
pub data Value : Type 0 where
  resolved : List Chunk → ℕ → Value
  refused : Fault → Value

-- ---- over lent outputs

-- the lent numbers b have room for the rows of the chunks, and the lent bytes t for their text
abbrev pub roomy : List Chunk → List ℕ → List ℕ → Bool
roomy cs b t = leb (length cs) (length b / 5) && leb (length (texts_of cs)) (length t)

-- the chunks fit into the lent numbers b and the lent bytes t: there is room, and the numbers of a row reach to the end of the text
abbrev pub fits : List Chunk → List ℕ → List ℕ → Bool
fits cs b t = leb (length (texts_of cs)) most_number && roomy cs b t

-- "16 exactly if an answer exists and needs more rows or bytes than a lent output has" [01:Numbers a caller can get]
abbrev pub told : Value → List ℕ → List ℕ → Result Chunks Fault
told (resolved cs n) b t = cond (fits cs b t) (Ok (record { rows = length cs; bytes = length (texts_of cs); names = n })) (Err (nowhere NoRoom))
told (refused f) b t = Err f

-- "All output stays as it was on refusal; on success the room past the answer stays as it was": the numbers, and the bytes
abbrev pub rows_left : Value → List ℕ → List ℕ → List ℕ
rows_left (resolved cs n) b t = cond (fits cs b t) (flat_chunks (rows_from 0 cs) ++ drop (length cs * 5) b) b
rows_left (refused f) b t = b

abbrev pub text_left : Value → List ℕ → List ℕ → List ℕ
text_left (resolved cs n) b t = cond (fits cs b t) (texts_of cs ++ drop (length (texts_of cs)) t) t
text_left (refused f) b t = t

-- a call that comes to a value, over the lent numbers b and bytes t, answers r and leaves b' and t'
pub record Writes (value : Value) (b t : List ℕ) (r : Result Chunks Fault) (b' t' : List ℕ) : Type 0 where
  pub answer : r ≡ told value b t
  pub rows : b' ≡ rows_left value b t
  pub text : t' ≡ text_left value b t

-- such a call leaves its scratch w as w': "scratch is zeroed on every return"
pub record Resolves (value : Value) (w b t : List ℕ) (r : Result Chunks Fault) (w' b' t' : List ℕ) : Type 0 where
  pub writes : Writes value b t r b' t'
  pub scratch : w' ≡ replicate (length w) 0

-- ---- the checks that every call makes first, in the order of 01: 1 for a file, 2, 17, "then (resolving only) 16 exactly if the scratch is
-- under 32,768 bytes"

abbrev pub of_utf8 : Result ⊤ IllFormed → Result ⊤ Fault
of_utf8 (Ok tt) = (Ok tt)
of_utf8 (Err n) = Err (fault_at NotUtf8 n.at)

-- 1 for a file that is too long, then 2
unfoldable pub checked_file : List ℕ → Result ⊤ Fault
checked_file file = cond (leb (length file) most_bytes) (of_utf8 (validity_of file)) (Err (nowhere TooLong))

abbrev pub after : Result ⊤ Fault → Value → Value
after (Ok tt) value = value
after (Err f) value = refused f

-- the value, if the file passes, `good` says that the rows or places are right, and the scratch of w bytes is long enough; else the refusal
abbrev pub asked : List ℕ → Bool → ℕ → Value → Value
asked file good w value =
    after (checked_file file) (cond good (cond (leb least_scratch w) value (refused (nowhere NoRoom))) (refused (nowhere BadRows)))
