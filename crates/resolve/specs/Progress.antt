-- What the lent numbers and bytes hold while the elements of a value are resolved one after the other. For src/progress.rt and the crates above.
--     small             the chunks are no more than are counted
--     Has               the chunks so far, as the code has them
--     SaysRun           what a function answers that takes a run further
--     Counted           what a value came to that was counted and not written
--     ReadyTables       a scratch and the tables that content is resolved with
-- Assumes nothing.
use Rattle.resolve.specs.declared.answer.Chunks.{Chunks}
use Rattle.std.specs.Prelude.{ℕ, ◌≤◌, ◌≡◌, Bool, false, not, ◌&&◌, List, ◌++◌, length, leb, Result, Ok, Err}
use Rattle.std.proofs.lemmas.List.Edits.{sets}
use Rattle.text.specs.Scan.{part}
use Rattle.row.specs.declared.fault.Fault.{Fault}
use Rattle.row.specs.Limits.{least_scratch, most_names}
use Rattle.turn.specs.Content.{flatten}
use Rattle.chunk.specs.Chunk.{Chunk}
use Rattle.compose.specs.Lookup.{numbers}
use Rattle.compose.specs.Composites.{composites}
use Rattle.command.specs.Names.{names as all_names}
use Rattle.literal.specs.declared.rows.Rows.{Rows}
use Rattle.literal.specs.Rows.{most_number, most_rows, RowsHold, texts_of}
use Rattle.resolve.specs.declared.progress.Progress.{Progress}
use Rattle.resolve.specs.Resolves.{Value, resolved, refused}
use Rattle.resolve.specs.Runs.{Run, done, stop}

-- the chunks are no more than are counted. No room holds more: `small-fits` of proofs/appending/SmallChunks.antt
unfoldable pub small : List Chunk → Bool
small cs = leb (length cs) most_rows && leb (length (texts_of cs)) most_number

-- st, b and t have the chunks ps: either these are more than can be written, and `over` says so, or they are counted and written exactly. The
-- lent numbers were b₀ and the lent bytes t₀ before any chunk
pub record Has (ps : List Chunk) (b₀ t₀ : List ℕ) (st : Progress) (b t : List ℕ) : Type 0 where
  pub over : st.over ≡ not (small (flatten ps))
  pub bytes : st.over ≡ false → st.bytes ≡ length (texts_of ps)
  pub rows : st.over ≡ false → RowsHold (flatten ps) b₀ st.rows b
  pub text : st.over ≡ false → t ≡ sets t₀ 0 (texts_of ps)

-- the counts are small, so that none overflows
pub record Bounded (st : Progress) : Type 0 where
  pub bytes : st.bytes ≤ most_number
  pub rows : st.rows.n ≤ most_rows
  pub names : st.names ≤ most_names

abbrev pub answer_of : Progress → Chunks
answer_of st = record { rows = st.rows.n; bytes = st.bytes; names = st.names }

-- the chunks cs are appended
abbrev pub Adds : List Chunk → Progress → List ℕ → List ℕ → Progress → List ℕ → List ℕ → Type 0
Adds cs st b t st' b' t' = (ps : List Chunk) (b₀ t₀ : List ℕ) → Has ps b₀ t₀ st b t → Has (ps ++ cs) b₀ t₀ st' b' t'

-- chunks whose rows are k and whose text stands in s from a to e are appended, where the lent bytes were t. What is required of them is
-- required only where the chunks before them could be written
abbrev pub Appends : Rows → List ℕ → ℕ → ℕ → Progress → List ℕ → Progress → List ℕ → Type 0
Appends k s a e st t st' t' =
    (ps cs : List Chunk) (b₀ t₀ b b' : List ℕ) → (st.over ≡ false → texts_of cs ≡ part s a e) → Has ps b₀ t₀ st b t
    → (st.over ≡ false → RowsHold (flatten (ps ++ cs)) b₀ k b') → Has (ps ++ cs) b₀ t₀ st' b' t'

abbrev pub SaysRun : Run → Progress → List ℕ → List ℕ → Result Progress Fault → List ℕ → List ℕ → Type 0
SaysRun (done cs n) st b t (Ok st') b' t' = (st'.names ≡ n) × Adds cs st b t st' b' t'
SaysRun (done cs n) st b t (Err f) b' t' = ⊥
SaysRun (stop g) st b t (Ok st') b' t' = ⊥
SaysRun (stop g) st b t (Err f) b' t' = f ≡ g

-- the places of a refusal have 32 bits
abbrev pub Narrow : Fault → Type 0
Narrow f = (f.start ≤ 4294967295) × (f.end ≤ 4294967295)

-- the counts of what elements came to are small, and the places of their refusal have 32 bits
abbrev pub BoundedWent : Result Progress Fault → Type 0
BoundedWent (Ok st) = Bounded st
BoundedWent (Err f) = Narrow f

-- the counts of an answer are small, and the places of a refusal have 32 bits
abbrev pub BoundedAnswer : Result Chunks Fault → Type 0
BoundedAnswer (Ok a) = (a.rows ≤ most_rows) × (a.bytes ≤ most_number) × (a.names ≤ most_names)
BoundedAnswer (Err f) = Narrow f

-- a value that was counted over no room: what it resolves to is counted exactly, or is more than can be written
abbrev pub Counted : Value → Result Progress Fault → Type 0
Counted (resolved cs n) (Ok st) =
    (st.over ≡ not (small cs)) × (st.over ≡ false → (st.rows.n ≡ length cs) × (st.bytes ≡ length (texts_of cs)))
Counted (resolved cs n) (Err f) = ⊥
Counted (refused g) (Ok st) = ⊥
Counted (refused g) (Err f) = f ≡ g

-- what the functions require: a scratch that is long enough, and the tables, of which the type `Tables` says the same
pub record ReadyTables (w by_name by_mark : List ℕ) : Type 0 where
  pub scratch : least_scratch ≤ length w
  pub names : by_name ≡ all_names
  pub marks : by_mark ≡ numbers composites
