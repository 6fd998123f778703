-- The search in numbers that are taken for rows, three to a row: a row's letter and mark are its key (`place_of` of search/specs/Halving.antt).
-- It is defined for any numbers, whether they rise or not, so that `find` can be lent any; where they are the numbers of a list that rises, it
-- is `lookup` in that list (`by-halving` of Composition.antt).
--     halved       the search among all rows. For src/lib.rt.
-- Assumes nothing.
use Rattle.std.specs.Prelude.{ℕ, ◌+◌, ◌*◌, ◌/◌, cond, List, ltb, length, get_or, Option, Some, None}
use Rattle.search.specs.Halving.{place_of}
use Rattle.compose.specs.Lookup.{Composite, ◌with◌is◌, has}

-- row k of the numbers t
abbrev pub row_at : List ℕ → ℕ → Composite
row_at t k = get_or t (k * 3) 0 with get_or t (k * 3 + 1) 0 is get_or t (k * 3 + 2) 0

-- one look at a row: its composed character, if it has that letter and mark
abbrev pub look : Composite → ℕ → ℕ → Option ℕ
look r l m = cond (has r l m) (Some r.char) None

-- the same at row k, if there are so many rows
abbrev pub look_at : List ℕ → ℕ → ℕ → ℕ → Option ℕ
look_at t l m k = cond (ltb k (length t / 3)) (look (row_at t k) l m) None

-- the search among all rows: it looks at the first that does not come before the letter and mark
unfoldable pub halved : List ℕ → ℕ → ℕ → Option ℕ
halved t l m = look_at t l m (place_of 3 t l m)
