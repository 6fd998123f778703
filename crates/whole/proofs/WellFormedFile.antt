-- What the values of a file are resolved into is well-formed: `well-formed-file`.
-- Assumes nothing.
use Prim.Native.Nat.{ℕ, suc}
use mathlib.Core.Path.{◌≡◌, refl, subst}
use mathlib.Core.Bool.{Bool, true, false, cond}
use mathlib.Core.List.{List, [], ◌∷◌}
use lib.ListN.{drop}
use Rattle.row.specs.Row.{Row}
use Rattle.row.specs.Numbers.{rows_of}
use Rattle.chunk.specs.Chunk.{Chunk}
use Rattle.chunk.specs.WellFormed as texts
use Rattle.literal.specs.WellFormed.{Passes}
use Rattle.literal.proofs.WellFormed.{well-formed}
use Rattle.resolve.specs.Resolves.{Value, resolved, refused}
use Rattle.resolve.specs.Checks.{Lent, lent_of}
use Rattle.values.specs.Field.{field_of}
use Rattle.fields.proofs.WellFormedFields.{well-formed-fields}
use Rattle.whole.specs.WholeFile.{is_value_row, flag, results_from, chunks_in, all, all_of}
use Rattle.whole.specs.WellFormedFile.{AllPass, WellFormedFile}
use Rattle.whole.proofs.ways.FileWays.{asked_of}

-- every value that is resolved from l passes the writers' check
abbrev Good : Lent → Type 0
Good l = (verb : Bool) (i n : ℕ) (cs : List Chunk) → field_of l verb i ≡ resolved cs n → Passes cs

results-pass : (l : Lent) → Good l → (i : ℕ) (fs : List ℕ) (rs : List Row) → AllPass (results_from l i fs rs)
unfolding AllPass results_from
results-pass l good i fs [] = tt
results-pass l good i fs (r ∷ rs) =
    by (is_value_row r) (field_of l (flag fs) i) (results_from l (suc i) (drop 1 fs) rs) (results_from l (suc i) fs rs)
    (one (field_of l (flag fs) i) (good (flag fs) i)) (results-pass l good (suc i) (drop 1 fs) rs) (results-pass l good (suc i) fs rs)
  where
    one : (v : Value) → ((n : ℕ) (cs : List Chunk) → v ≡ resolved cs n → Passes cs) → Passes (chunks_in v)
    one (resolved cs n) h = h n cs refl
    one (refused f) h = well-formed.value [] texts.none

    by : (w : Bool) (v : Value) (vs us : List Value) → Passes (chunks_in v) → AllPass vs → AllPass us → AllPass (cond w (v ∷ vs) us)
    by true v vs us p q k = (p, q)
    by false v vs us p q k = k

values-pass : (file rows flags months words : List ℕ) (w : ℕ) (vs : List Value) → all_of file rows flags months words w ≡ all vs → AllPass vs
values-pass file rows flags months words w vs e =
    let a = asked_of file rows flags months words w vs e in
    let octets = well-formed-fields.file file a.passed in
    let good : Good (lent_of file rows months words) = λ verb i n cs. well-formed-fields.passes file rows months words verb i n cs octets a.lent in
    subst AllPass a.values-are (results-pass (lent_of file rows months words) good 0 flags (rows_of rows))

pub well-formed-file : WellFormedFile
well-formed-file = record { values = values-pass }
