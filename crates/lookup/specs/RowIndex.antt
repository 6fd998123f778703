-- The index of a file's definition rows, by the hashes of their names.
--     counts          row i is a definition, and no later row defines its name
--     row_in          row i counts, and its name falls into bucket b
--     fits            the lent numbers have room: there is a bucket, a number for each row, and the numbers fit
--     Indexed         where they have room, they hold the chains of all rows, or the definitions in order
--     Built           what `build` leaves
-- For `build` and `find` inside:
--     IndexedFrom     the lent numbers have room, and hold the chains of the rows from row i on
--     last_from       the number of the last definition of a name among the rows from row i on
--     Follows, Links  what following a chain comes to, and making the chains, where at most `most` rows of a chain are looked at
-- Assumes nothing.
use Rattle.std.specs.Prelude.{ℕ, suc, ◌+◌, ◌/◌, ◌%◌, ◌≤◌, ◌≡◌, Bool, true, false, ◌&&◌, List, ◌⊎◌, length, drop, eqb, ltb, leb, Option, Some, None}
use Rattle.std.specs.Prelude.{Result, Ok, Err, is_ok}
use Rattle.row.specs.declared.form.Kind.TheVariants.{DefinitionName}
use Rattle.row.specs.Row.{Row}
use Rattle.row.specs.Rules.{is_kind}
use Rattle.row.specs.Numbers.{rows_of}
use Rattle.lookup.specs.declared.index.TooLong.{TooLong}
use Rattle.lookup.specs.Fnv.{hash_of}
use Rattle.lookup.specs.Names.{name_of, row_no, last_named}
use Rattle.lookup.specs.Buckets.{Linked}
use Rattle.lookup.specs.Order.{Ordered}

abbrev pub is_nothing : Option ℕ → Bool
is_nothing (Some n) = false
is_nothing None = true

unfoldable pub counts : List ℕ → List Row → ℕ → Bool
counts file rs i = is_kind DefinitionName (row_no rs i).kind && is_nothing (last_named file (name_of file (row_no rs i)) (drop (suc i) rs))

unfoldable pub row_in : List ℕ → List Row → ℕ → ℕ → ℕ → Bool
row_in file rs size b i = counts file rs i && eqb (hash_of (name_of file (row_no rs i)) % size) b

abbrev pub fits : ℕ → ℕ → ℕ → Bool
fits n heads next = (ltb 0 heads && leb n next) && leb n 2147483647

pub record IndexedFrom (file rows : List ℕ) (i : ℕ) (heads next : List ℕ) : Type 0 where
  pub room : fits (length rows / 4) (length heads) (length next) ≡ true
  pub inside : i ≤ length rows / 4
  pub index : Linked (row_in file (rows_of rows) (length heads)) (length rows / 4) i heads next

abbrev pub Indexed : List ℕ → List ℕ → List ℕ → List ℕ → Type 0
Indexed file rows heads next =
    fits (length rows / 4) (length heads) (length next) ≡ true → IndexedFrom file rows 0 heads next ⊎ Ordered file rows heads next

pub record Built (file rows heads next heads' next' : List ℕ) : Type 0 where
  pub heads-size : length heads' ≡ length heads
  pub next-size : length next' ≡ length next
  pub index : Indexed file rows heads' next'
  -- where the index has no room, all numbers stay as they were
  pub no_room : fits (length rows / 4) (length heads) (length next) ≡ false → (heads' ≡ heads) × (next' ≡ next)

-- ---- inside

-- a row that was counted from row i on, counted from the first row on
abbrev pub counted : ℕ → Option ℕ → Option ℕ
counted i (Some n) = Some (i + n)
counted i None = None

abbrev pub last_from : List ℕ → List ℕ → List Row → ℕ → Option ℕ
last_from file name rs i = counted i (last_named file name (drop i rs))

-- following a chain answers f; or the chain has more than `most` rows, which can only be where `most` is no more than the rows of the file
abbrev pub Follows : Option ℕ → ℕ → ℕ → Result (Option ℕ) TooLong → Type 0
Follows f n most (Ok found) = found ≡ f
Follows f n most (Err e) = most ≤ n

-- the chains of the rows from row i on were made; or a chain has more than `most` rows
pub record Links (file rows : List ℕ) (i most : ℕ) (done : Result (Unit {0}) TooLong) (heads next : List ℕ) : Type 0 where
  pub made : is_ok done ≡ true → IndexedFrom file rows i heads next
  pub long : is_ok done ≡ false → most ≤ length rows / 4
