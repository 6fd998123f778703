-- What the exported calls leave in their lent numbers.
--     is_set         a flag of C
--     Told           an outcome in lent numbers
--     Exported       the contract of every exported call that writes one thing: an outcome, and all that is left in the lent rows or bytes
--     ToldResolving, ExportedResolving
--                   what the calls that resolve tell, and their contract: they write rows and text, and are lent scratch
--     ToldFiling, ExportedFile
--                   what the call tells that resolves every value of a file, and its contract: it is also lent numbers for answers and an index
-- Assumes nothing.
use Rattle.row.specs.declared.fault.Fault.{Fault}
use Rattle.whole.specs.declared.file.Filed.{Filed}
use Rattle.resolve.specs.declared.answer.Chunks.{Chunks}
use Rattle.std.specs.Prelude.{ℕ, ◌≡◌, Bool, not, List, length, replicate, eqb, Result, Ok, Err}
use Rattle.row.specs.Fault.{number_of}
use Rattle.raw.specs.Reader.{Out}
use Rattle.raw.specs.Read.{reading_out, left_out}
use Rattle.chunk.specs.Chunk.{chunks_of}
use Rattle.chunk.specs.Format.{format_verbatim, to_biblatex_string}
use Rattle.chunk.specs.Sentence.{format_sentence}
use Rattle.chunk.specs.Write.{checked_of, writing_of, written_into}
use Rattle.pack.specs.Pack.{packed_of, packed_into}
use Rattle.pack.specs.Unpack.{unpacked_of, unpacked_into}
use Rattle.resolve.specs.Resolves.{Value, told, rows_left, text_left}
use Rattle.resolve.specs.OneLiteral.{literal_of}
use Rattle.fields.specs.OneField.{value_at}
use Rattle.whole.specs.WholeFile.{All, tell_all, answers_left, chunks_left, texts_left}

-- ---- outcomes

-- the status, the count and the place: 0, the count and 0..0; or the refusal's number, 0 and its place
abbrev pub status_of : Result ℕ Fault → ℕ
status_of (Ok n) = 0
status_of (Err f) = number_of f.reason

abbrev pub count_of : Result ℕ Fault → ℕ
count_of (Ok n) = n
count_of (Err f) = 0

abbrev pub place_start : Result ℕ Fault → ℕ
place_start (Ok n) = 0
place_start (Err f) = f.start

abbrev pub place_end : Result ℕ Fault → ℕ
place_end (Ok n) = 0
place_end (Err f) = f.end

pub record Told (o : Result ℕ Fault) (r count start end : ℕ) : Type 0 where
  pub status : r ≡ status_of o
  pub number : count ≡ count_of o
  pub from : start ≡ place_start o
  pub to : end ≡ place_end o

-- ---- calls

-- a call that comes to o and leaves l in what was lent for rows or bytes answers r, tells the count and the place, and leaves b'
pub record Exported (o : Result ℕ Fault) (l : List ℕ) (r count start end : ℕ) (b' : List ℕ) : Type 0 where
  pub told : Told o r count start end
  pub left : b' ≡ l

-- a reading that finds o, over the lent numbers b: `bib_read` finds `strict`, and `bib_salvage` finds `salvaged`
abbrev pub ExportedReading : Out → List ℕ → ℕ → ℕ → ℕ → ℕ → List ℕ → Type 0
ExportedReading o b = Exported (reading_out o (length b)) (left_out o b)

-- `bib_pack` of the rows l over the lent bytes b. The place of each refusal is 0..0, as `packed_of` has it
abbrev pub ExportedPack : List ℕ → List ℕ → ℕ → ℕ → ℕ → ℕ → List ℕ → Type 0
ExportedPack l b = Exported (packed_of l (length b)) (packed_into l b)

-- `bib_unpack` of the bytes s over the lent numbers b. The place of each refusal is 0..0, as `unpacked_of` has it
abbrev pub ExportedUnpack : List ℕ → List ℕ → ℕ → ℕ → ℕ → ℕ → List ℕ → Type 0
ExportedUnpack s b = Exported (unpacked_of s (length b)) (unpacked_into s b)

-- a writer of w, of the text t and the chunk rows in the numbers l, over the lent bytes b
abbrev pub ExportedWriting : List ℕ → List ℕ → List ℕ → List ℕ → ℕ → ℕ → ℕ → ℕ → List ℕ → Type 0
ExportedWriting w t l b = Exported (writing_of (checked_of t l) w (length b)) (written_into (checked_of t l) w b)

-- `bib_format_verbatim`
abbrev pub ExportedFormatVerbatim : List ℕ → List ℕ → List ℕ → ℕ → ℕ → ℕ → ℕ → List ℕ → Type 0
ExportedFormatVerbatim t l = ExportedWriting (format_verbatim (chunks_of t l)) t l

-- `bib_format_sentence`
abbrev pub ExportedFormatSentence : List ℕ → List ℕ → List ℕ → ℕ → ℕ → ℕ → ℕ → List ℕ → Type 0
ExportedFormatSentence t l = ExportedWriting (format_sentence (chunks_of t l)) t l

-- a flag of C: any number but 0 sets it
abbrev pub is_set : ℕ → Bool
is_set n = not (eqb n 0)

-- `bib_to_biblatex_string`, for a field that is verbatim or not
abbrev pub ExportedToBiblatexString : Bool → List ℕ → List ℕ → List ℕ → ℕ → ℕ → ℕ → ℕ → List ℕ → Type 0
ExportedToBiblatexString verb t l = ExportedWriting (to_biblatex_string verb (chunks_of t l)) t l

-- ---- calls that resolve

-- the number of chunk rows, or the refusal; beside it the bytes of text, and the names resolved, or 0
abbrev pub of_answer : Result Chunks Fault → Result ℕ Fault
of_answer (Ok a) = Ok a.rows
of_answer (Err f) = Err f

abbrev pub bytes_of : Result Chunks Fault → ℕ
bytes_of (Ok a) = a.bytes
bytes_of (Err f) = 0

abbrev pub names_of : Result Chunks Fault → ℕ
names_of (Ok a) = a.names
names_of (Err f) = 0

pub record ToldResolving (a : Result Chunks Fault) (r count bytes names start end : ℕ) : Type 0 where
  pub told : Told (of_answer a) r count start end
  pub text : bytes ≡ bytes_of a
  pub resolved : names ≡ names_of a

-- a call that comes to a value, over the lent scratch w, numbers b and bytes t, answers r, tells the answer, and leaves w', b' and t'
pub record ExportedResolving (value : Value) (w b t : List ℕ) (r count bytes names start end : ℕ) (w' b' t' : List ℕ) : Type 0 where
  pub answer : ToldResolving (told value b t) r count bytes names start end
  pub rows : b' ≡ rows_left value b t
  pub text : t' ≡ text_left value b t
  pub scratch : w' ≡ replicate (length w) 0

-- `bib_resolve_literal` of the literal that stands in the file from a to e, of a verbatim field or another
abbrev pub ExportedLiteral : List ℕ → ℕ → ℕ → Bool → List ℕ → List ℕ → List ℕ → ℕ → ℕ → ℕ → ℕ → ℕ → ℕ → List ℕ → List ℕ → List ℕ → Type 0
ExportedLiteral file a e verb w = ExportedResolving (literal_of file a e verb (length w)) w

-- `bib_resolve_field` of the value whose row is number `which`, of a verbatim field or another
abbrev pub ExportedField : List ℕ → List ℕ → ℕ → Bool → List ℕ → List ℕ → List ℕ → List ℕ → List ℕ → ℕ → ℕ → ℕ → ℕ → ℕ → ℕ
    → List ℕ → List ℕ → List ℕ → Type 0
ExportedField file rows which verb months words w = ExportedResolving (value_at file rows which verb months words (length w)) w

-- ---- the call that resolves every value of a file

-- the number of values, or the refusal; beside it the chunk rows and the bytes of text, or 0
abbrev pub of_filed : Result Filed Fault → Result ℕ Fault
of_filed (Ok a) = Ok a.values
of_filed (Err f) = Err f

abbrev pub rows_in : Result Filed Fault → ℕ
rows_in (Ok a) = a.rows
rows_in (Err f) = 0

abbrev pub bytes_in : Result Filed Fault → ℕ
bytes_in (Ok a) = a.bytes
bytes_in (Err f) = 0

pub record ToldFiling (a : Result Filed Fault) (r count rows bytes start end : ℕ) : Type 0 where
  pub told : Told (of_filed a) r count start end
  pub rows_told : rows ≡ rows_in a
  pub text-told : bytes ≡ bytes_in a

-- `bib_resolve_file`, which comes to all values or to a refusal, over the lent scratch w, the index's numbers h and x, the answers q, the chunk
-- rows b and the text t, answers r, tells the counts and the place, and leaves w', h', x', q', b' and t'
pub record ExportedFile (a : All) (w h x q b t : List ℕ) (r count rows bytes start end : ℕ) (w' h' x' q' b' t' : List ℕ) : Type 0 where
  pub answer : ToldFiling (tell_all a q b t) r count rows bytes start end
  pub answers : q' ≡ answers_left a q b t
  pub chunks : b' ≡ chunks_left a q b t
  pub text : t' ≡ texts_left a q b t
  pub scratch : w' ≡ replicate (length w) 0
  pub heads : h' ≡ replicate (length h) 0
  pub next : x' ≡ replicate (length x) 0
