-- What a list of compositions says of a letter and a mark.
--     Composite, numbers       a row of the list; a list of rows as plain numbers, three to a row
--     lookup                   the row with a letter and a mark. For src/lib.rt.
--     comes_before, rises      the order of the rows
-- Assumes nothing.
use Rattle.std.specs.Prelude.{ℕ, Bool, true, cond, ◌&&◌, List, [], ◌∷◌, eqb, Option, Some, None}
use Rattle.search.specs.Halving.{before}

-- [01:Matching forms to places] a row is "letter, mark and composed character"
pub record Composite : Type 0 where
  pub letter : ℕ
  pub mark : ℕ
  pub char : ℕ

infix 80 ◌with◌is◌
abbrev pub ◌with◌is◌ : ℕ → ℕ → ℕ → Composite
◌with◌is◌ l m c = record { letter = l; mark = m; char = c }

-- the rows as the constant of src/composites.rt has them
unfoldable pub numbers : List Composite → List ℕ
numbers [] = []
numbers (r ∷ rs) = r.letter ∷ r.mark ∷ r.char ∷ numbers rs

-- whether a row has a letter and a mark
abbrev pub has : Composite → ℕ → ℕ → Bool
has r l m = eqb r.letter l && eqb r.mark m

-- the composed character of the first row with that letter and mark; Nothing where no row has them
unfoldable pub lookup : List Composite → ℕ → ℕ → Option ℕ
lookup [] l m = None
lookup (r ∷ rs) l m = cond (has r l m) (Some r.char) (lookup rs l m)

-- whether a row comes before a letter and a mark: its letter is smaller, or it is the same and its mark is smaller
abbrev pub comes_before : Composite → ℕ → ℕ → Bool
comes_before r l m = before r.letter r.mark l m

-- every row comes before the next one; and the first comes behind row p
unfoldable pub rises_from : Composite → List Composite → Bool
rises_from p [] = true
rises_from p (r ∷ rs) = comes_before p r.letter r.mark && rises_from r rs

unfoldable pub rises : List Composite → Bool
rises [] = true
rises (r ∷ rs) = rises_from r rs
