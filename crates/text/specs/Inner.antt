-- What the inner functions of src/ answer: nothing here stands in a public contract.
-- Assumes nothing.
use Rattle.std.specs.Prelude.{ℕ, ◌-◌, ◌/◌, ◌%◌, ◌^◌, ◌≤◌, ◌<◌, max, ◌≡◌, Bool, true, false, cond, not, ◌||◌, List, length, get_or, eqb, ltb, leb}
use Rattle.std.specs.Bool.{beq}
use Rattle.text.specs.Range.{Range, ◌–◌, within}
use Rattle.text.specs.Utf8.{tail}
use Rattle.text.specs.Class.{holds_of}
use Rattle.text.specs.declared.class.Masks.{Masks}
use Rattle.text.specs.declared.class.Test.{Test}

-- the second octets that may follow the first octet a
unfoldable pub seconds : ℕ → Range
seconds a =
    cond (eqb a 0xE0) (0xA0 – 0xBF)
    (cond (eqb a 0xED) (0x80 – 0x9F) (cond (eqb a 0xF0) (0x90 – 0xBF) (cond (eqb a 0xF4) (0x80 – 0x8F) tail)))

unfoldable pub goes_second : ℕ → ℕ → Bool
goes_second a b = within (seconds a) b

-- bit b of two words, the first 64 bits in the lower
unfoldable pub has_bit : ℕ → ℕ → ℕ → Bool
has_bit low high b = cond (ltb b 64) (eqb (low / 2 ^ b % 2) 1) (cond (ltb b 128) (eqb (high / 2 ^ (b - 64) % 2) 1) false)

abbrev pub masks_of : ℕ → ℕ → Bool → Masks
masks_of low high narrow = record { low = low; high = high; narrow = narrow }

-- the masks of a test: a bit is set exactly if the character passes, and where they are narrow no other character does
pub record AsciiOf (t : Test) (m : Masks) : Type 0 where
  pub bits : (b : ℕ) → b < 128 → has_bit m.low m.high b ≡ holds_of t b
  pub others : m.narrow ≡ true → (c : ℕ) → 128 ≤ c → holds_of t c ≡ false

-- a character that passes the test, or one that does not
abbrev pub wants : Test → Bool → ℕ → Bool
wants t w = cond w (holds_of t) (λ c. not (holds_of t c))

-- r is where the bytes of ASCII from i on whose bit is w end
pub record AsciiRun (low high : ℕ) (w : Bool) (s : List ℕ) (i r : ℕ) : Type 0 where
  pub from : i ≤ r
  pub to : r ≤ max i (length s)
  pub passed : (k : ℕ) → i ≤ k → k < r → (k < length s) × (get_or s k 0 < 0x80) × (beq (has_bit low high (get_or s k 0)) w ≡ true)
  pub stopped : r < length s → get_or s r 0 < 0x80 → beq (has_bit low high (get_or s r 0)) w ≡ false

-- a letter of ASCII
abbrev pub letter_of : ℕ → Bool
letter_of b = within (0x61 – 0x7A) b || within (0x41 – 0x5A) b

-- the bytes from i to r are letters of ASCII
pub record Letters (s : List ℕ) (i r : ℕ) : Type 0 where
  pub from : i ≤ r
  pub to : r ≤ max i (length s)
  pub letters : (k : ℕ) → i ≤ k → k < r → letter_of (get_or s k 0) ≡ true

-- white space of ASCII
abbrev pub blank_of : ℕ → Bool
blank_of b = eqb b 0x20 || within (0x09 – 0x0D) b

-- a byte that may end a key. Any other byte is ASCII and part of a key, so `eat_key` passes it without a closer look
abbrev pub rare_of : ℕ → Bool
rare_of b = (leb b 0x20 || eqb b 0x2C) || leb 0x7D b
