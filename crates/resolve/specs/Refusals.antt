-- Which refusals a call that resolves can answer [01:Numbers a caller can get], and their places. The proofs are `calls` and `refusals` of
-- proofs/Refusals.antt.
--     FileFault, CallFault     the refusals of a file, and of a call with what its work can meet
--     FullCall                 when a call answers 16
--     Lacks, NeedsMore, NeedsRoom      what an answer needs and is not lent
--     Calls                    a call answers no others
-- Assumes nothing.
use Rattle.resolve.specs.declared.answer.Chunks.{Chunks}
use Rattle.std.specs.Prelude.{ℕ, ◌/◌, ◌≤◌, ◌<◌, ◌≡◌, ◌↔◌, ◌⊎◌, Bool, true, false, List, length, Result, Ok, Err}
use Rattle.text.specs.Utf8.{validity_of}
use Rattle.text.specs.Scan.{part}
use Rattle.row.specs.declared.fault.Fault.{Fault}
use Rattle.row.specs.declared.fault.Reason.TheVariants.{TooLong, NotUtf8, NoRoom, BadRows}
use Rattle.row.specs.Fault.{number_of, fault_at, nowhere}
use Rattle.row.specs.Limits.{most_bytes, least_scratch}
use Rattle.chunk.specs.Chunk.{Chunk}
use Rattle.literal.specs.Literal.{resolve_literal}
use Rattle.literal.specs.Rows.{most_number, texts_of}
use Rattle.literal.specs.Refusals.{LiteralFault}
use Rattle.resolve.specs.Resolves.{Value, resolved, refused, told, Resolves, checked_file, asked}
use Rattle.resolve.specs.OneLiteral.{is_span, value_of, literal_of}

-- 1 at 0..0, and 2 at "n..n, first byte of the first ill-formed sequence"
pub data FileFault (file : List ℕ) : Fault → Type 0 where
  long : most_bytes < length file → FileFault file (nowhere TooLong)
  ill-formed : (n : ℕ) → length file ≤ most_bytes → validity_of file ≡ Err (record { at = n }) → FileFault file (fault_at NotUtf8 n)

-- the file is not refused, and the rows or places, which are good or not, are good
abbrev pub Admitted : List ℕ → Bool → Type 0
Admitted file good = (checked_file file ≡ Ok tt) × (good ≡ true)

-- "Order: 1 for a file, 2, 17, then (resolving only) 16 [..], then 3 to 15 and a literal's 1 as the work meets them": 17 and 16 are at 0..0
pub data CallFault (file : List ℕ) (good : Bool) (Met : Fault → Type 0) : Fault → Type 0 where
  first : (f : Fault) → FileFault file f → CallFault file good Met f
  not_right : checked_file file ≡ Ok tt → good ≡ false → CallFault file good Met (nowhere BadRows)
  full : Admitted file good → CallFault file good Met (nowhere NoRoom)
  met : (f : Fault) → Admitted file good → Met f → CallFault file good Met f

-- "16 exactly if the scratch is under 32,768 bytes", of which there are w, and "exactly if an answer exists and needs more rows or bytes than a
-- lent output has"
abbrev pub FullCall : List ℕ → Bool → ℕ → Type 0 → Type 0
FullCall file good w More = Admitted file good × ((w < least_scratch) ⊎ More)

-- the chunks need more rows than the numbers b have, or more bytes than t has
abbrev pub Lacks : List Chunk → List ℕ → List ℕ → Type 0
Lacks cs b t = (length b / 5 < length cs) ⊎ (length t < length (texts_of cs))

-- the value is an answer that needs more than b and t have
abbrev pub NeedsRoom : Value → List ℕ → List ℕ → Type 0
NeedsRoom (resolved cs n) b t = Lacks cs b t
NeedsRoom (refused f) b t = ⊥

-- or its text is longer than the numbers of a row reach, which have 32 bits: no room is enough for that
abbrev pub NeedsMore : Value → List ℕ → List ℕ → Type 0
NeedsMore (resolved cs n) b t = (most_number < length (texts_of cs)) ⊎ Lacks cs b t
NeedsMore (refused f) b t = ⊥

-- a call answers no others, where its work refuses by Met
abbrev pub Calls : Type 1
Calls =
    (file : List ℕ) (good : Bool) (w : ℕ) (value : Value) (Met : Fault → Type 0) → ((f : Fault) → value ≡ refused f → Met f) → (b t : List ℕ)
    (f : Fault) → Err f ≡ told (asked file good w value) b t → CallFault file good Met f

pub record Refusals : Type 0 where
  -- a file is refused with 1 or 2 alone
  pub file : (file : List ℕ) (f : Fault) → checked_file file ≡ Err f → FileFault file f
  pub file-own : (file : List ℕ) (f : Fault) → FileFault file f → number_of f.reason ≤ 2
  -- a call whose work never refuses with 16 answers 16 exactly then
  pub call-full : (file : List ℕ) (good : Bool) (w : ℕ) (value : Value) → (value ≡ refused (nowhere NoRoom) → ⊥) → (b t : List ℕ) (r : Result Chunks Fault)
      → r ≡ told (asked file good w value) b t → (r ≡ Err (nowhere NoRoom)) ↔ FullCall file good w (NeedsMore value b t)
  -- `resolve_literal` answers no others
  pub literal : (file : List ℕ) (a e : ℕ) (verb : Bool) (w b t w' b' t' : List ℕ) (f : Fault)
      → Resolves (literal_of file a e verb (length w)) w b t (Err f) w' b' t'
      → CallFault file (is_span file a e) (LiteralFault (part file a e) a) f
  -- and 16 exactly if the scratch is too small, or an answer exists and needs more than is lent: a literal's text is never too long for a row
  pub literal-full : (file : List ℕ) (a e : ℕ) (verb : Bool) (w b t w' b' t' : List ℕ) (r : Result Chunks Fault)
      → Resolves (literal_of file a e verb (length w)) w b t r w' b' t'
      → (r ≡ Err (nowhere NoRoom))
      ↔ FullCall file (is_span file a e) (length w) (NeedsRoom (value_of (resolve_literal verb (part file a e) a)) b t)
