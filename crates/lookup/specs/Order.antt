-- Definition rows in the order of their names. The order of names is that of their bytes: the first byte in which two names differ decides,
-- and a name comes before longer names that begin with it. Of two definitions of one name the one with the lesser number comes first.
--     order_of        how two texts stand in the order of bytes
--     comes           row i comes before row j, or is row j
--     merged, sorted  two lists of numbers merged; a list sorted, by sorting its halves and merging them
--     definitions     the numbers of the definition rows
--     in_order        the numbers of the definition rows in order
--     Ordered         the lent numbers hold the definitions in order
-- For `merge` inside:
--     left_first       the first number of two merged lists is that of the left one
-- Assumes nothing.
use Rattle.std.specs.Prelude.{ℕ, zero, suc, ◌+◌, ◌/◌, ◌≡◌, Bool, true, false, cond, List, [], ◌∷◌, length, get_or, take, drop, ltb, leb}
use Rattle.std.specs.declared.cmp.Ordering.{Ordering}
use Rattle.std.specs.declared.cmp.Ordering.TheVariants.{Less, Equal, Greater}
use Rattle.row.specs.declared.form.Kind.TheVariants.{DefinitionName}
use Rattle.row.specs.Row.{Row}
use Rattle.row.specs.Rules.{is_kind}
use Rattle.row.specs.Numbers.{rows_of}
use Rattle.lookup.specs.Names.{name_of, row_no}
use Rattle.lookup.specs.Buckets.{rising}

unfoldable pub order_of : List ℕ → List ℕ → Ordering
order_of [] [] = Equal
order_of [] (b ∷ t) = Less
order_of (a ∷ s) [] = Greater
order_of (a ∷ s) (b ∷ t) = cond (ltb a b) Less (cond (ltb b a) Greater (order_of s t))

-- whether row i comes before row j: by the order of their names, and for equal names by the numbers
abbrev pub comes_by : Ordering → ℕ → ℕ → Bool
comes_by Less i j = true
comes_by Equal i j = leb i j
comes_by Greater i j = false

unfoldable pub comes : List ℕ → List Row → ℕ → ℕ → Bool
comes file rs i j = comes_by (order_of (name_of file (row_no rs i)) (name_of file (row_no rs j))) i j

-- ---- lists merged and sorted, whatever the order is

-- a list that begins with x, merged with another list: first the numbers of the other that come before x, then x, then what f makes of the
-- rest of the other
unfoldable pub merged_at : (ℕ → ℕ → Bool) → ℕ → (List ℕ → List ℕ) → List ℕ → List ℕ
merged_at le x f [] = x ∷ f []
merged_at le x f (y ∷ ys) = cond (le x y) (x ∷ f (y ∷ ys)) (y ∷ merged_at le x f ys)

unfoldable pub merged : (ℕ → ℕ → Bool) → List ℕ → List ℕ → List ℕ
merged le [] ys = ys
merged le (x ∷ xs) ys = merged_at le x (merged le xs) ys

unfoldable pub left_first : (ℕ → ℕ → Bool) → List ℕ → List ℕ → Bool
left_first le [] [] = true
left_first le [] (y ∷ ys) = false
left_first le (x ∷ xs) [] = true
left_first le (x ∷ xs) (y ∷ ys) = le x y

-- with at most d halvings, which are enough for a list of at most 2 ^ d numbers
unfoldable pub sorted : (ℕ → ℕ → Bool) → ℕ → List ℕ → List ℕ
sorted le zero xs = xs
sorted le (suc d) xs =
    cond (ltb (length xs) 2) xs (merged le (sorted le d (take (length xs / 2) xs)) (sorted le d (drop (length xs / 2) xs)))

-- ---- the definitions of a file

abbrev pub is_definition : List Row → ℕ → Bool
is_definition rs i = is_kind DefinitionName (row_no rs i).kind

unfoldable pub definitions : List Row → List ℕ
definitions rs = rising (is_definition rs) (length rs) 0

unfoldable pub in_order : List ℕ → List Row → List ℕ
in_order file rs = sorted (comes file rs) 32 (definitions rs)

-- the first number of `heads` is the number of rows and the number of definitions together, and one more; `next` begins with the definitions
-- in order
pub record Ordered (file rows heads next : List ℕ) : Type 0 where
  pub mark : get_or heads 0 0 ≡ suc (length rows / 4) + length (definitions (rows_of rows))
  pub order : take (length (definitions (rows_of rows))) next ≡ in_order file (rows_of rows)
