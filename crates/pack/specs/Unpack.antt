-- The contract of `unpack` [01:Rows and their packing]: "Unpacking refuses with 17 exactly if the length is no multiple of 7, the sequence
-- or a detail is not the above, or an end passes 16,777,215"; then 16 exactly if the rows lent are too few; "numbers past its last whole
-- row are no room and stay as they were".
-- Assumes nothing.
use Rattle.row.specs.declared.fault.Fault.{Fault}
use Rattle.std.specs.Prelude.{ℕ, ◌*◌, ◌/◌, ◌%◌, ◌≡◌, Bool, ◌&&◌, List, ◌++◌, length, drop, eqb, leb, Result}
use Rattle.text.specs.Every.{every}
use Rattle.row.specs.Row.{flat}
use Rattle.row.specs.Rules.{is_rows}
use Rattle.pack.specs.Seven.{unpacking, end_fits}
use Rattle.pack.specs.Answer.{answer_of, left_of}

unfoldable pub is_unpackable : List ℕ → Bool
is_unpackable s = eqb (length s % 7) 0 && (is_rows (unpacking s) && every end_fits (unpacking s))

unfoldable pub unpacked_of : List ℕ → ℕ → Result ℕ Fault
unpacked_of s size = answer_of (is_unpackable s) (leb (length s / 7) (size / 4)) (length s / 7)

-- what is left in the lent numbers: the rows in front of what they held, or all as it was
unfoldable pub unpacked_into : List ℕ → List ℕ → List ℕ
unpacked_into s b = left_of (is_unpackable s) (leb (length s / 7) (length b / 4)) (flat (unpacking s) ++ drop (length s / 7 * 4) b) b

-- `unpack` of the bytes s over the lent numbers b answers r and leaves b'
pub record Unpack (s b : List ℕ) (r : Result ℕ Fault) (b' : List ℕ) : Type 0 where
  pub answer : r ≡ unpacked_of s (length b)
  pub rows : b' ≡ unpacked_into s b
