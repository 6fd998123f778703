-- Definitions for the contracts of the functions of src/file.rt that `resolve_file` calls.
--     Filing                  what counting and writing all values require
--     CountsAll, AddsTo       the values so far, as the code has counted them
--     SoFar, CountedTo        the values of the rows before a row
--     WroteAll, WroteTo       what the lent outputs hold when the values are written, all of them or those before a row
-- Assumes nothing.
use Rattle.row.specs.declared.fault.Fault.{Fault}
use Rattle.resolve.specs.declared.progress.Progress.{Progress}
use Rattle.resolve.specs.declared.answer.Chunks.{Chunks}
use Rattle.std.specs.Prelude.{ℕ, ◌+◌, ◌*◌, ◌≤◌, ◌≡◌, Bool, false, not, List, [], ◌∷◌, ◌++◌, length, drop, Result, Ok, Err}
use Rattle.row.specs.Fault.{number_of}
use Rattle.row.specs.Numbers.{rows_of}
use Rattle.literal.specs.Rows.{most_number, texts_of}
use Rattle.resolve.specs.Resolves.{Value}
use Rattle.resolve.specs.Checks.{Lent}
use Rattle.resolve.specs.Progress.{small, ReadyTables}
use Rattle.values.specs.declared.resolver.Resolver.{Resolver}
use Rattle.values.specs.Uses.{IndexOf}
use Rattle.whole.specs.declared.file.Totals.{Totals}
use Rattle.whole.specs.WholeFile.{results_from, results, values, chunks_in, texts, chunk_numbers, count_rows, answer_numbers, small_all}

-- what is required where values are counted or written: a flag for each, and a scratch that is long enough
pub record Filing (r : Resolver) (flags w : List ℕ) : Type 0 where
  pub index : IndexOf r
  pub ready : ReadyTables w r.tables.names.now r.tables.marks.now
  pub flagged : values (rows_of r.rows.now) ≤ length flags

-- the counts are small, so that none overflows
pub record BoundedTotals (t : Totals) : Type 0 where
  pub rows : t.rows ≤ most_number
  pub bytes : t.bytes ≤ most_number

-- t counts the values vs: either they are more than can be written, and `over` says so, or they are counted exactly
pub record CountsAll (vs : List Value) (t : Totals) : Type 0 where
  pub values : t.values ≡ length vs
  pub over : t.over ≡ not (small_all vs)
  pub rows : t.over ≡ false → t.rows ≡ count_rows vs
  pub bytes : t.over ≡ false → t.bytes ≡ length (texts vs)

-- the values vs of the rows before row i are counted
pub record SoFar (l : Lent) (flags : List ℕ) (i : ℕ) (vs : List Value) (t : Totals) : Type 0 where
  pub rest : vs ++ results_from l i (drop (length vs) flags) (drop i l.rows) ≡ results l flags
  pub counts : CountsAll vs t
  pub few : length vs ≤ i

-- the values of the rows before row i, whichever they are, are counted
pub record CountedTo (l : Lent) (flags : List ℕ) (i : ℕ) (t : Totals) : Type 0 where
  pub vs : List Value
  pub so : SoFar l flags i vs t

-- a value has n chunks and m bytes of text; or more of these than can be written
abbrev pub Sized : Value → ℕ → ℕ → Bool → Type 0
Sized v n m over = (over ≡ not (small (chunks_in v))) × (over ≡ false → (n ≡ length (chunks_in v)) × (m ≡ length (texts_of (chunks_in v))))

-- t with one value more is r. The value has n chunks and m bytes of text, or more than can be written
abbrev pub AddsTo : Totals → ℕ → ℕ → Bool → Totals → Type 0
AddsTo t n m over r = (vs : List Value) (v : Value) → CountsAll vs t → Sized v n m over → CountsAll (vs ++ v ∷ []) r

-- t with one value more is r. The value was counted; where it was refused it has no chunks
abbrev pub AddsCounted : Totals → Result Progress Fault → Totals → Type 0
AddsCounted t (Ok st) r = AddsTo t st.rows.n st.bytes st.over r
AddsCounted t (Err f) r = AddsTo t 0 0 false r

-- the answer row of a value, six numbers. The value's rows and text stand behind those that t has counted
abbrev pub six_of : Totals → Result Chunks Fault → List ℕ
six_of t (Ok a) = 0 ∷ a.names ∷ t.rows ∷ (t.rows + a.rows) ∷ t.bytes ∷ (t.bytes + a.bytes) ∷ []
six_of t (Err f) = number_of f.reason ∷ 0 ∷ f.start ∷ f.end ∷ 0 ∷ 0 ∷ []

-- t with one value more is r. The value was written, with this answer
abbrev pub AddsAnswer : Totals → Result Chunks Fault → Totals → Type 0
AddsAnswer t (Ok a) r = AddsTo t a.rows a.bytes false r
AddsAnswer t (Err f) r = AddsTo t 0 0 false r

-- what is written of a value fits behind what was written before
abbrev pub FitsBehind : Totals → Result Chunks Fault → Type 0
FitsBehind t (Ok a) = (t.rows + a.rows ≤ most_number) × (t.bytes + a.bytes ≤ most_number)
FitsBehind t (Err f) = Unit {0}

-- the values vs are written over the answers q, the chunk rows b and the text t, which become q', b' and t'
pub record WroteAll (vs : List Value) (q b t q' b' t' : List ℕ) : Type 0 where
  pub answers : q' ≡ answer_numbers 0 0 vs ++ drop (length vs * 6) q
  pub chunks : b' ≡ chunk_numbers vs ++ drop (count_rows vs * 5) b
  pub text : t' ≡ texts vs ++ drop (length (texts vs)) t

-- the values of the rows before row i are counted and written
pub record WroteTo (l : Lent) (flags : List ℕ) (i : ℕ) (q b t : List ℕ) (r : Totals) (q' b' t' : List ℕ) : Type 0 where
  pub vs : List Value
  pub so : SoFar l flags i vs r
  pub wrote : WroteAll vs q b t q' b' t'
