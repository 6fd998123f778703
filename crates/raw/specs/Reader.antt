-- Readers of text, and the few ways to make one of others. All that a reader knows of the text it knows by `see`.
-- A reading is a list of parts or a refusal, for parts of any type; places are relative to the text.
-- Assumes nothing.
use Rattle.std.specs.Prelude.{ℕ, zero, suc, Bool, cond, List, [], ◌∷◌, ◌++◌, length, Option, Some, None}
use Rattle.text.specs.Scan.{see}
use Rattle.row.specs.declared.fault.Fault.{Fault}
use Rattle.row.specs.declared.fault.Reason.TheVariants.{UnexpectedEof}
use Rattle.row.specs.declared.fault.Reason.{Reason}
use Rattle.row.specs.Fault.{fault_at}
use Rattle.row.specs.Row.{Row, Mark, marked}

-- a reader is done at a place; or one turn of a loop is, and the loop goes on with a number; or it refuses. P is what it emits
pub data OutOf (P : Type 0) : Type 0 where
  ok : ℕ → List P → OutOf P
  again : ℕ → List P → ℕ → OutOf P
  bad : Fault → OutOf P

abbrev pub ReaderOf : Type 0 → Type 0
ReaderOf P = List ℕ → ℕ → OutOf P

-- what the grammar emits are rows
abbrev pub Out : Type 0
Out = OutOf Row

abbrev pub Reader : Type 0
Reader = ReaderOf Row

-- ---- outcomes

-- parts in front
abbrev pub more : {P : Type 0} → List P → OutOf P → OutOf P
more rs (ok q ss) = ok q (rs ++ ss)
more rs (again q ss a) = again q (rs ++ ss) a
more rs (bad f) = bad f

-- one reader after another; only the last of them may be a turn that goes on
abbrev pub and_then : {P : Type 0} → OutOf P → (ℕ → OutOf P) → OutOf P
and_then (ok q rs) g = more rs (g q)
and_then (again q rs a) g = more rs (g q)
and_then (bad f) g = bad f

-- a turn of a loop, and then the loop if the turn says `again`
abbrev pub after : {P : Type 0} → OutOf P → (ℕ → ℕ → OutOf P) → OutOf P
after (ok q rs) g = ok q rs
after (again q rs a) g = more rs (g a q)
after (bad f) g = bad f

-- by what is seen: f from the place after a character of class t; else o
abbrev pub eaten : {P : Type 0} → (ℕ → Bool) → Option (ℕ × ℕ) → (ℕ → OutOf P) → OutOf P → OutOf P
eaten t None f o = o
eaten t (Some (c, n)) f o = cond (t c) (f n) o

-- a row in front, to the place where the reader ends
abbrev pub under : (ℕ → Row) → Out → Out
under mk (ok q rs) = ok q (mk q ∷ rs)
under mk (again q rs a) = again q (mk q ∷ rs) a
under mk (bad f) = bad f

-- ---- readers of any parts

abbrev pub stop : {P : Type 0} → ReaderOf P
stop s p = ok p []

abbrev pub turn : {P : Type 0} → ℕ → ReaderOf P
turn a s p = again p [] a

abbrev pub refuse : {P : Type 0} → Reason → ReaderOf P
refuse reason s p = bad (fault_at reason p)

infixr 20 ◌then◌
-- one after the other
abbrev pub ◌then◌ : {P : Type 0} → ReaderOf P → ReaderOf P → ReaderOf P
◌then◌ f g s p = and_then (f s p) (g s)

-- eat a character of class t and go on with f; else g, and nothing is eaten
abbrev pub when : {P : Type 0} → (ℕ → Bool) → ReaderOf P → ReaderOf P → ReaderOf P
when t f g s p = eaten t (see s p) (f s) (g s p)

-- f where a character of class t stands, which is not eaten; else g
abbrev pub sees : {P : Type 0} → (ℕ → Bool) → ReaderOf P → ReaderOf P → ReaderOf P
sees t f g s p = eaten t (see s p) (λ n. f s p) (g s p)

-- turns of f, beginning with the number a, for as long as they say `again`. The fuel never runs out (`many-turn` of proofs/readers/Loop.antt)
unfoldable pub loop : {P : Type 0} → (ℕ → ReaderOf P) → ℕ → ℕ → ReaderOf P
loop f zero a s p = bad (fault_at UnexpectedEof p)
loop f (suc n) a s p = after (f a s p) (λ b q. loop f n b s q)

unfoldable pub many : {P : Type 0} → (ℕ → ReaderOf P) → ℕ → ReaderOf P
many f a s p = loop f (suc (length s)) a s p

-- characters of class t, for as long as there are
abbrev pub scan_turn : {P : Type 0} → (ℕ → Bool) → ℕ → ReaderOf P
scan_turn t a = when t (turn a) stop

abbrev pub scan : {P : Type 0} → (ℕ → Bool) → ReaderOf P
scan t = many (scan_turn t) 0

-- ---- readers of rows

-- a row of the mark m over all that f reads, or from a place before it
abbrev pub over : Mark → Reader → Reader
over m f s p = under (marked m p) (f s p)

abbrev pub over_from : Mark → ℕ → Reader → Reader
over_from m a f s p = under (marked m a) (f s p)

-- a row from one place to another
abbrev pub put : Mark → ℕ → ℕ → Reader
put m a e s p = ok p (marked m a e ∷ [])
