-- Sets of bytes, texts that have none of a set, and runs of plain text. For src/block.rt and its callers; nothing here stands in a public
-- contract.
-- Assumes nothing.
use Rattle.std.specs.Prelude.{ℕ, ◌+◌, ◌-◌, ◌≤◌, ◌<◌, max, ◌≡◌, Bool, true, false, not, ◌&&◌, ◌||◌, List, [], ◌∷◌, length, get_or, ltb}
use Rattle.text.specs.Range.{◌–◌, within}
use Rattle.text.specs.Class.{mark}
use Rattle.text.specs.declared.block.Interval.{Interval}
use Rattle.text.specs.declared.block.Set.{Set}

abbrev pub interval_of : ℕ → ℕ → Interval
interval_of a b = record { 0 = a; 1 = b }

abbrev pub set_of : ℕ → ℕ → ℕ → ℕ → ℕ → ℕ → Set
set_of a b c d e f = record { one = interval_of a b; two = interval_of c d; three = interval_of e f }

abbrev pub inside : Interval → ℕ → Bool
inside x b = within (x.0 – x.1) b

unfoldable pub in_set : Set → ℕ → Bool
in_set x b = inside x.one b || inside x.two b || inside x.three b

-- how far b is from the interval
abbrev pub apart : Interval → ℕ → ℕ
apart x b = (x.0 - b) + (b - x.1)

-- a brace, a backslash, or "|", which stands between the braces
abbrev pub braces : Set
braces = set_of 0x5C 0x5C 0x7B 0x7D 0x7B 0x7D

-- a quotation mark or a backslash
abbrev pub quotes : Set
quotes = set_of 0x5C 0x5C 0x22 0x22 0x22 0x22

-- what is not ASCII
abbrev pub others : Set
others = set_of 0x80 0xFF 0x80 0xFF 0x80 0xFF

-- what is not white space of ASCII
abbrev pub solids : Set
solids = set_of 0x00 0x08 0x0E 0x1F 0x21 0xFF

-- the bytes below 0x0E, line ends among them
abbrev pub lines : Set
lines = set_of 0x00 0x0D 0x00 0x0D 0x00 0x0D

-- these, and what is not ASCII
abbrev pub breaks : Set
breaks = set_of 0x00 0x0D 0x80 0xFF 0x80 0xFF

-- the byte x alone
abbrev pub only : ℕ → Set
only x = set_of x x x x x x

-- r is a place from i on, not past the end of the text, before which no byte is of the set
pub record Clear (x : Set) (s : List ℕ) (i r : ℕ) : Type 0 where
  pub from : i ≤ r
  pub to : r ≤ max i (length s)
  pub clear : (k : ℕ) → i ≤ k → k < r → (get_or s k 0 < 256) × (in_set x (get_or s k 0) ≡ false)

-- r is the first place from i on where the byte x stands, or the end
pub record Found (x : ℕ) (s : List ℕ) (i r : ℕ) : Type 0 where
  pub from : i ≤ r
  pub to : r ≤ max i (length s)
  pub before : (k : ℕ) → i ≤ k → k < r → get_or s k 0 ≡ x → ⊥
  pub at : r < length s → get_or s r 0 ≡ x

-- printable ASCII, the blank among them, but $ - \ { }
unfoldable pub is_simple : ℕ → Bool
is_simple b = ltb 0x1F b && ltb b 0x7F && not (mark (0x24 ∷ 0x2D ∷ 0x5C ∷ 0x7B ∷ 0x7D ∷ []) b)

-- r is a place from i on, not past the end of the text, before which every byte is simple, and none is a blank behind a blank
pub record PlainRun (s : List ℕ) (i r : ℕ) : Type 0 where
  pub from : i ≤ r
  pub to : r ≤ max i (length s)
  pub simple : (k : ℕ) → i ≤ k → k < r → is_simple (get_or s k 0) ≡ true
  pub single : (k : ℕ) → i ≤ k → k < r → get_or s (k - 1) 0 ≡ 0x20 → get_or s k 0 ≡ 0x20 → ⊥
