-- The contract of `pack` [01:Rows and their packing]: 17 as the row check refuses, and where an end passes 16,777,215 or a start passes
-- its end; then 16 exactly if the bytes lent are too few.
-- Assumes nothing.
use Rattle.row.specs.declared.fault.Fault.{Fault}
use Rattle.std.specs.Prelude.{ℕ, ◌*◌, ◌/◌, ◌≡◌, Bool, ◌&&◌, List, ◌++◌, length, drop, leb, Result}
use Rattle.text.specs.Every.{every}
use Rattle.row.specs.Numbers.{rows_of, are_rows}
use Rattle.pack.specs.Seven.{packing, span_fits}
use Rattle.pack.specs.Answer.{answer_of, left_of}

unfoldable pub is_packable : List ℕ → Bool
is_packable l = are_rows l && every span_fits (rows_of l)

-- how many bytes the rows of n numbers take
abbrev pub bytes_for : ℕ → ℕ
bytes_for n = n / 4 * 7

unfoldable pub packed_of : List ℕ → ℕ → Result ℕ Fault
packed_of l size = answer_of (is_packable l) (leb (bytes_for (length l)) size) (bytes_for (length l))

-- what is left in the lent bytes: the rows' bytes in front of what they held, or all as it was
unfoldable pub packed_into : List ℕ → List ℕ → List ℕ
packed_into l b = left_of (is_packable l) (leb (bytes_for (length l)) (length b)) (packing (rows_of l) ++ drop (bytes_for (length l)) b) b

-- `pack` of the numbers l over the lent bytes b answers r and leaves b'
pub record Pack (l b : List ℕ) (r : Result ℕ Fault) (b' : List ℕ) : Type 0 where
  pub answer : r ≡ packed_of l (length b)
  pub bytes : b' ≡ packed_into l b
