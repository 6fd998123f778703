-- Numbers cut by fours, as the library's `as_chunks` cuts them, are rows: what a loop over them rests on, here and in the crates above. The proof
-- is `fours` of proofs/Fours.antt. Assumes nothing.
use Rattle.std.specs.Prelude.{ℕ, ◌+◌, ◌*◌, ◌/◌, ◌≤◌, ◌<◌, ◌≡◌, List, [], ◌∷◌, length, get_or, drop}
use Rattle.std.specs.Simd.{first_chunks}
use Rattle.row.specs.Row.{Row}
use Rattle.row.specs.Laid.{row_at}
use Rattle.row.specs.Numbers.{rows_of}

-- the row of four numbers, those with number i of the list
abbrev pub row_in : List (List ℕ) → ℕ → Row
row_in ys i = row_at (get_or ys i []) 0

pub record Fours : Type 0 where
  -- number j of four numbers
  pub four_at : (xs : List ℕ) {ys : List (List ℕ)} → ys ≡ first_chunks 4 (length xs / 4) xs → (i : ℕ) → i < length ys → (j : ℕ) → j < 4
      → get_or (get_or ys i []) j 0 ≡ get_or xs (i * 4 + j) 0
  -- the rows from four numbers on: the row of these, and the rows of those behind them; behind the last there is none
  pub fours-next : (xs : List ℕ) {ys : List (List ℕ)} → ys ≡ first_chunks 4 (length xs / 4) xs → (i : ℕ) → i < length ys
      → rows_of (drop (i * 4) xs) ≡ row_in ys i ∷ rows_of (drop ((i + 1) * 4) xs)
  pub fours_end : (xs : List ℕ) {ys : List (List ℕ)} → ys ≡ first_chunks 4 (length xs / 4) xs → (i : ℕ) → length ys ≤ i → rows_of (drop (i * 4) xs) ≡ []
