-- What values come to at most: src/bound.rt, and the functions of src/file.rt that add it up. Only how fast the call is depends on how near a
-- bound is, so the contracts say that it is one, and not which.
--     AtMost, MostOf                        what the elements of a value come to at most, whatever file they stand in
--     ElementMost, FewMost                  what one element comes to at most
--     Wider, Either                         bounds that are wider than others
--     TextMost, MonthsMost, UseAtMost       what a month word, and any name, comes to at most
--     CoversAll, CoversTo, CoversCounted    values that come to no more than was counted
--     Covered                               the values of the rows before a row come to no more than was counted
-- Assumes nothing.
use Rattle.row.specs.declared.fault.Fault.{Fault}
use Rattle.whole.specs.declared.bound.Most.{Most}
use Rattle.resolve.specs.declared.progress.Progress.{Progress}
use Rattle.std.specs.Prelude.{ℕ, ◌+◌, ◌-◌, ◌*◌, ◌/◌, ◌≤◌, ◌<◌, ◌≡◌, Bool, false, not, List, [], ◌∷◌, ◌++◌, length, get_or, Option, Some, None, Result, Ok, Err}
use Rattle.row.specs.Row.{Row}
use Rattle.literal.specs.Rows.{most_number, texts_of}
use Rattle.resolve.specs.Resolves.{Value}
use Rattle.resolve.specs.Checks.{Lent}
use Rattle.resolve.specs.Runs.{Run, done, stop}
use Rattle.values.specs.declared.elements.Element.{Element}
use Rattle.values.specs.declared.elements.Element.TheVariants as code
use Rattle.values.specs.Field.{walk, elements, element, name}
use Rattle.whole.specs.declared.file.Totals.{Totals}
use Rattle.whole.specs.WholeFile.{chunks_in, texts, count_rows, small_all}
use Rattle.whole.specs.Filing.{SoFar}

-- ---- the elements of a value

-- a run that is not refused has at most n chunks and m bytes of text
abbrev pub RunAtMost : Run → ℕ → ℕ → Type 0
RunAtMost (done cs k) n m = (length cs ≤ n) × (length (texts_of cs) ≤ m)
RunAtMost (stop f) n m = Unit {0}

-- a name comes to at most u, if that is known
abbrev pub NameAtMost : Option Most → (Row → ℕ → Run) → Type 0
NameAtMost (Some a) name = (r : Row) (k : ℕ) → RunAtMost (name r k) a.rows a.bytes
NameAtMost None name = Unit {0}

-- the elements in front of rs come to at most n chunks and m bytes of text, whatever the file is, where names come to at most u
abbrev pub AtMost : Option Most → List Row → ℕ → ℕ → Type 0
AtMost u rs n m =
    (l : Lent) (verb : Bool) (name : Row → ℕ → Run) → NameAtMost u name → (k : ℕ) → RunAtMost (walk (element l verb name) (elements rs) k) n m

-- what `most_of` answers is a bound, or nothing is known
abbrev pub MostOf : Option Most → List Row → Option Most → Type 0
MostOf u rs (Some a) = AtMost u rs a.rows a.bytes
MostOf u rs None = Unit {0}

-- no more than can be written, so that no sum overflows
abbrev pub SmallMost : Option Most → Type 0
SmallMost (Some a) = (a.rows ≤ most_number) × (a.bytes ≤ most_number)
SmallMost None = Unit {0}

-- what the element e comes to, where names come to at most u; a literal's place may be no place of a file
abbrev pub ElementMost : Element → Option Most → Option Most → Type 0
ElementMost (code.Name a e) u r = r ≡ u
ElementMost (code.Literal a e) u (Some m) = (m.rows ≡ e - a + 1) × (m.bytes ≡ 2 * (e - a))
ElementMost (code.Literal a e) u None = Unit {0}

-- so little that no sum with it overflows
abbrev pub FewMost : Option Most → Type 0
FewMost (Some m) = (m.rows ≤ most_number + 1) × (m.bytes ≤ 2 * most_number)
FewMost None = Unit {0}

-- ---- names

-- what is within a is within r
abbrev pub Wider : Option Most → Option Most → Type 0
Wider None a = Unit {0}
Wider (Some a) (Some b) = (b.rows ≤ a.rows) × (b.bytes ≤ a.bytes)
Wider (Some a) None = ⊥

-- what is within a or within b is within r
pub record Either (a b r : Option Most) : Type 0 where
  pub one : Wider r a
  pub other : Wider r b
  pub small : SmallMost a → SmallMost b → SmallMost r

-- one chunk with k bytes of text is within u
abbrev pub TextMost : ℕ → Option Most → Type 0
TextMost k (Some a) = (1 ≤ a.rows) × (k ≤ a.bytes)
TextMost k None = Unit {0}

-- the text of each month word, of which there are four numbers, is within u
abbrev pub MonthsMost : List ℕ → Option Most → Type 0
MonthsMost months u = (j : ℕ) → j < length months / 4 → TextMost (get_or months (j * 4 + 3) 0 - get_or months (j * 4 + 2) 0) u

-- the use of any name comes to at most u
abbrev pub UseAtMost : Lent → Option Most → Type 0
UseAtMost l u = SmallMost u × ((verb : Bool) (left : ℕ) (path : List ℕ) → NameAtMost u (name l verb left path))

-- ---- values

-- a value has at most n chunks and m bytes of text
abbrev pub Under : Value → ℕ → ℕ → Type 0
Under v n m = (length (chunks_in v) ≤ n) × (length (texts_of (chunks_in v)) ≤ m)

-- the values vs come to no more than was counted, unless that is more than can be written
pub record CoversAll (vs : List Value) (t : Totals) : Type 0 where
  pub values : t.values ≡ length vs
  pub rows : t.over ≡ false → count_rows vs ≤ t.rows
  pub bytes : t.over ≡ false → length (texts vs) ≤ t.bytes

-- t with one value more is r. The value has at most n chunks and m bytes of text, or more than can be written
abbrev pub CoversTo : Totals → ℕ → ℕ → Bool → Totals → Type 0
CoversTo t n m over r = (vs : List Value) (v : Value) → CoversAll vs t → (over ≡ false → Under v n m) → CoversAll (vs ++ v ∷ []) r

-- t with one value more is r. The value was counted; where it was refused it has no chunks
abbrev pub CoversCounted : Totals → Result Progress Fault → Totals → Type 0
CoversCounted t (Ok st) r = CoversTo t st.rows.n st.bytes st.over r
CoversCounted t (Err f) r = CoversTo t 0 0 false r

-- what values come to exactly
abbrev pub exactly : List Value → Totals
exactly vs = record { values = length vs; rows = count_rows vs; bytes = length (texts vs); over = not (small_all vs) }

-- the values of the rows before row i come to no more than t
pub record Covered (l : Lent) (flags : List ℕ) (i : ℕ) (t : Totals) : Type 0 where
  pub vs : List Value
  pub so : SoFar l flags i vs (exactly vs)
  pub covers : CoversAll vs t
