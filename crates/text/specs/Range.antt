-- Ranges of numbers, as the RFC's and Unicode's tables write them.
-- Assumes nothing.
use Rattle.std.specs.Prelude.{ℕ, Bool, false, ◌&&◌, ◌||◌, List, [], ◌∷◌, leb}

-- from the first number to the last, both included
pub record Range : Type 0 where
  pub first : ℕ
  pub last : ℕ

infix 80 ◌–◌
abbrev pub ◌–◌ : ℕ → ℕ → Range
◌–◌ a b = record { first = a; last = b }

abbrev pub within : Range → ℕ → Bool
within r c = leb r.first c && leb c r.last

-- in one of the ranges
abbrev pub among : List Range → ℕ → Bool
among [] c = false
among (r ∷ rs) c = within r c || among rs c
