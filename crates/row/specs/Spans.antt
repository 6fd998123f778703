-- Spans of rows that lie in a file [01:Rows and their packing].
-- Assumes nothing.
use Rattle.std.specs.Prelude.{ℕ, ◌≤◌, List, [], ◌∷◌}
use Rattle.row.specs.Row.{Row}

-- a row's start does not pass its end, and its end does not pass n, the length of the file
pub record SpanIn (n : ℕ) (r : Row) : Type 0 where
  pub order : r.start ≤ r.end
  pub inside : r.end ≤ n

unfoldable pub SpansIn : ℕ → List Row → Type 0
SpansIn n [] = Unit {0}
SpansIn n (r ∷ rs) = SpanIn n r × SpansIn n rs
