-- The call `resolve_file`: every value of a file in one call.
--     results_from                            what each value resolves to, in the order of the rows
--     answer_numbers, chunk_numbers, texts    what is written: an answer row for each value, the rows of their chunks, their texts
--     ResolvesFile                            the contract
-- Assumes nothing.
use Rattle.whole.specs.declared.file.Filed.{Filed}
use Rattle.std.specs.Prelude.{ℕ, suc, ◌+◌, ◌*◌, ◌/◌, ◌≡◌, Bool, false, cond, not, ◌&&◌, List, [], ◌∷◌, ◌++◌, length, drop, replicate, eqb, leb, Result, Ok, Err, ⊤}
use Rattle.row.specs.declared.form.Kind.TheVariants as kind
use Rattle.row.specs.declared.fault.Fault.{Fault}
use Rattle.row.specs.declared.fault.Reason.TheVariants.{NoRoom, BadRows}
use Rattle.row.specs.Fault.{number_of, nowhere}
use Rattle.row.specs.Row.{Row}
use Rattle.row.specs.Rules.{is_kind}
use Rattle.row.specs.Numbers.{rows_of}
use Rattle.row.specs.Limits.{least_scratch}
use Rattle.chunk.specs.Chunk.{Chunk, flat_chunks}
use Rattle.literal.specs.Rows.{most_number, rows_from, texts_of}
use Rattle.resolve.specs.Resolves.{Value, resolved, refused, checked_file}
use Rattle.resolve.specs.Checks.{Lent, are_lent, lent_of}
use Rattle.values.specs.Field.{field_of}

-- ---- what the values resolve to

abbrev pub is_value_row : Row → Bool
is_value_row r = is_kind kind.Value r.kind

-- the flag of the next value, which is the first: any number but 0 sets it
abbrev pub flag : List ℕ → Bool
flag [] = false
flag (f ∷ fs) = not (eqb f 0)

-- the rows rs begin with row i, and the flags with that of their first value
unfoldable pub results_from : Lent → ℕ → List ℕ → List Row → List Value
results_from l i fs [] = []
results_from l i fs (r ∷ rs) = cond (is_value_row r) (field_of l (flag fs) i ∷ results_from l (suc i) (drop 1 fs) rs) (results_from l (suc i) fs rs)

abbrev pub results : Lent → List ℕ → List Value
results l fs = results_from l 0 fs l.rows

-- how many rows are values
unfoldable pub values : List Row → ℕ
values [] = 0
values (r ∷ rs) = cond (is_value_row r) (suc (values rs)) (values rs)

-- ---- what is written

-- the chunks of a value: none where it is refused
abbrev pub chunks_in : Value → List Chunk
chunks_in (resolved cs n) = cs
chunks_in (refused f) = []

-- a value's chunk rows are those that `resolve_field` writes: the places of their texts count from the beginning of the value's own text
unfoldable pub chunk_numbers : List Value → List ℕ
chunk_numbers [] = []
chunk_numbers (v ∷ vs) = flat_chunks (rows_from 0 (chunks_in v)) ++ chunk_numbers vs

unfoldable pub texts : List Value → List ℕ
texts [] = []
texts (v ∷ vs) = texts_of (chunks_in v) ++ texts vs

-- how many chunk rows the values have
unfoldable pub count_rows : List Value → ℕ
count_rows [] = 0
count_rows (v ∷ vs) = length (chunks_in v) + count_rows vs

-- an answer row, six numbers: 0, the names, the range of its chunk rows and of its text; or the refusal's number, 0, its place, 0 and 0. The
-- value's rows begin at row a and its text at byte t
abbrev pub six : ℕ → ℕ → Value → List ℕ
six a t (resolved cs n) = 0 ∷ n ∷ a ∷ (a + length cs) ∷ t ∷ (t + length (texts_of cs)) ∷ []
six a t (refused f) = number_of f.reason ∷ 0 ∷ f.start ∷ f.end ∷ 0 ∷ 0 ∷ []

unfoldable pub answer_numbers : ℕ → ℕ → List Value → List ℕ
answer_numbers a t [] = []
answer_numbers a t (v ∷ vs) = six a t v ++ answer_numbers (a + length (chunks_in v)) (t + length (texts_of (chunks_in v))) vs

-- ---- the call

-- the numbers of an answer row, which have 32 bits, reach to the end of the chunk rows and of the text
unfoldable pub small_all : List Value → Bool
small_all vs = leb (count_rows vs) most_number && leb (length (texts vs)) most_number

-- the values fit into the answers q, the chunk rows b and the text t
unfoldable pub fits_all : List Value → List ℕ → List ℕ → List ℕ → Bool
fits_all vs q b t =
    small_all vs
    && (leb (length vs) (length q / 6) && (leb (count_rows vs) (length b / 5) && leb (length (texts vs)) (length t)))

-- all the values, or a refusal of the call itself
pub data All : Type 0 where
  all : List Value → All
  none : Fault → All

-- the answer of the call: "16 exactly if an answer exists and needs more rows or bytes than a lent output has" [01:Numbers a caller can get]
abbrev pub tell_all : All → List ℕ → List ℕ → List ℕ → Result Filed Fault
tell_all (all vs) q b t = cond (fits_all vs q b t) (Ok (record { values = length vs; rows = count_rows vs; bytes = length (texts vs) })) (Err (nowhere NoRoom))
tell_all (none f) q b t = Err f

-- what the answers, the chunk rows and the text hold afterwards: what is written, and behind it what they held; or all as it was
abbrev pub answers_left : All → List ℕ → List ℕ → List ℕ → List ℕ
answers_left (all vs) q b t = cond (fits_all vs q b t) (answer_numbers 0 0 vs ++ drop (length vs * 6) q) q
answers_left (none f) q b t = q

abbrev pub chunks_left : All → List ℕ → List ℕ → List ℕ → List ℕ
chunks_left (all vs) q b t = cond (fits_all vs q b t) (chunk_numbers vs ++ drop (count_rows vs * 5) b) b
chunks_left (none f) q b t = b

abbrev pub texts_left : All → List ℕ → List ℕ → List ℕ → List ℕ
texts_left (all vs) q b t = cond (fits_all vs q b t) (texts vs ++ drop (length (texts vs)) t) t
texts_left (none f) q b t = t

-- 17 of the call itself: what is lent with the file is not right, or a value has no flag
unfoldable pub are_filed : List ℕ → List ℕ → List ℕ → List ℕ → List ℕ → Bool
are_filed file rows flags months words = are_lent file rows months words && leb (values (rows_of rows)) (length flags)

abbrev pub after_all : Result ⊤ Fault → All → All
after_all (Ok tt) a = a
after_all (Err f) a = none f

-- the values, or the first refusal of the call itself, in the order of 01: 1, 2, 17, and 16 for a scratch that is too short
abbrev pub all_of : List ℕ → List ℕ → List ℕ → List ℕ → List ℕ → ℕ → All
all_of file rows flags months words w =
    after_all (checked_file file)
    (cond (are_filed file rows flags months words)
    (cond (leb least_scratch w) (all (results (lent_of file rows months words) flags)) (none (nowhere NoRoom)))
    (none (nowhere BadRows)))

-- the answer r, and what the call leaves in the answers q, the chunk rows b and the text t
pub record WritesAll (a : All) (q b t : List ℕ) (r : Result Filed Fault) (q' b' t' : List ℕ) : Type 0 where
  pub answer : r ≡ tell_all a q b t
  pub answers : q' ≡ answers_left a q b t
  pub chunks : b' ≡ chunks_left a q b t
  pub text : t' ≡ texts_left a q b t

-- "scratch is zeroed on every return" [01:Numbers a caller can get]: the scratch w, and the numbers h and x of the index too
pub record ResolvesFile (a : All) (w h x q b t : List ℕ) (r : Result Filed Fault) (w' h' x' q' b' t' : List ℕ) : Type 0 where
  pub writes : WritesAll a q b t r q' b' t'
  pub scratch : w' ≡ replicate (length w) 0
  pub heads : h' ≡ replicate (length h) 0
  pub next : x' ≡ replicate (length x) 0
