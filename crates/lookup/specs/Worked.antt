-- Worked cases: the published vectors of FNV-1a with 32 bits, and names in a file [01:Resolving and writing].
-- Assumes nothing.
use Rattle.std.specs.Prelude.{ℕ, ◌≡◌, true, false, List, [], ◌∷◌, Some, None}
use Rattle.text.specs.Scan.{part}
use Rattle.row.specs.Row.{Row, row_of}
use Rattle.lookup.specs.Fnv.{hash_of}
use Rattle.lookup.specs.Names.{last_named}
use Rattle.lookup.specs.RowIndex.{counts}

-- the bytes "abab", and definitions of "a", "ab", "ab", "b", and one whose span is reversed
abbrev pub abab : List ℕ
abab = 97 ∷ 98 ∷ 97 ∷ 98 ∷ []

abbrev pub five : List Row
five = row_of 8 0 0 1 ∷ row_of 8 0 0 2 ∷ row_of 8 0 2 4 ∷ row_of 8 0 3 4 ∷ row_of 8 0 2 1 ∷ []

pub record Worked : Type 0 where
  -- "", "a", "foobar"
  pub nothing : hash_of [] ≡ 2166136261
  pub a : hash_of (97 ∷ []) ≡ 3826002220
  pub foobar : hash_of (102 ∷ 111 ∷ 111 ∷ 98 ∷ 97 ∷ 114 ∷ []) ≡ 3214735720
  -- the last of two definitions, by a name's bytes and not by its place
  pub last : last_named abab (part abab 0 2) five ≡ Some 2
  pub once : last_named abab (97 ∷ []) five ≡ Some 0
  pub absent : last_named abab (99 ∷ []) five ≡ None
  -- a reversed span is an empty name, which only hand-made rows have
  pub empty : last_named abab [] five ≡ Some 4
  -- a row of another kind is no definition
  pub other : last_named abab (97 ∷ []) (row_of 8 0 0 1 ∷ row_of 7 0 0 1 ∷ []) ≡ Some 0
  -- of the two definitions of "ab" only the last is in the index
  pub shadowed : counts abab five 1 ≡ false
  pub counting : counts abab five 2 ≡ true
