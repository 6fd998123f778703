-- Definitions for the contracts of the inner functions of src/.
-- Assumes nothing.
use Rattle.std.specs.Prelude.{ℕ, ◌+◌, ◌-◌, ◌*◌, ◌≤◌, ◌<◌, ◌≡◌, Bool, true, List, ◌∷◌, length, take, drop}
use Rattle.text.specs.Utf8.{Octets}
use Rattle.row.specs.declared.fault.Fault.{Fault}
use Rattle.row.specs.Row.{Row, moved, flat}
use Rattle.row.specs.Limits.{most_bytes}
use Rattle.raw.specs.Read.{strict}
use Rattle.row.specs.Rules.{clean}
use Rattle.salvage.specs.Salvage.{cut, told, salvage_of}
use Rattle.salvage.specs.Demand3.{fresh}
use Rattle.salvage.specs.declared.piece.Tally.{Tally}

-- ---- a piece

-- the piece that begins at p ends at e, where the next one begins or the file ends
pub record PieceEnds (s : List ℕ) (p e : ℕ) : Type 0 where
  pub from : p < e
  pub to : e ≤ length s
  pub cuts : cut (drop p s) ≡ take (e - p) (drop p s) ∷ cut (drop e s)
  pub next : fresh (drop e s) ≡ true

-- what reading a piece requires: that it is some bytes of a file inside 01's limit, and valid where it is said to be
pub record PieceToRead (w : List ℕ) (base : ℕ) (valid : Bool) : Type 0 where
  pub file : base + length w ≤ most_bytes
  pub some : 0 < length w
  pub known : valid ≡ true → Octets w

-- what writing the damage of a piece requires: that it lies in a file inside 01's limit, and that the cause's place lies in the piece
pub record DamageToWrite (w : List ℕ) (base : ℕ) (f : Fault) : Type 0 where
  pub file : base + length w ≤ most_bytes
  pub from : f.start ≤ length w
  pub to : f.end ≤ length w

-- how many the rows are, and whether no damage row is among them
abbrev pub tally_of : List Row → Tally
tally_of rs = record { rows = length rs; sound = clean rs }

-- the piece w, base bytes into the file, puts its rows in front of the lent numbers b where all of them fit. Nothing is said of the numbers
-- behind them
pub record PutsPiece (w : List ℕ) (base : ℕ) (b : List ℕ) (r : Tally) (b' : List ℕ) : Type 0 where
  pub tally : r ≡ tally_of (told w (strict w))
  pub most : length (told w (strict w)) ≤ 8 * length w
  pub rows : length (told w (strict w)) * 4 ≤ length b → take (length (told w (strict w)) * 4) b' ≡ flat (moved base (told w (strict w)))

-- ---- a file

-- the first n bytes are valid
pub record ValidTo (s : List ℕ) (n : ℕ) : Type 0 where
  pub inside : n ≤ length s
  pub octets : Octets (take n s)

-- what reading the pieces requires: that the file is inside 01's limit, and valid up to n
pub record FileToRead (s : List ℕ) (n : ℕ) : Type 0 where
  pub short : length s ≤ most_bytes
  pub valid : ValidTo s n

-- the rows of the pieces stand in the lent numbers b where these are just as many as the rows need
pub record FillsRows (s b : List ℕ) (r : Tally) (b' : List ℕ) : Type 0 where
  pub tally : r ≡ tally_of (salvage_of s)
  pub rows : length b ≡ length (salvage_of s) * 4 → b' ≡ flat (salvage_of s)
