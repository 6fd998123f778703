-- [02:1] "Full upper and lower mappings come from Unicode's UnicodeData and the unconditional part of SpecialCasing, in the version the Rust's
-- compiler uses; each table's rule is proved once over all its rows."
--     to_uppercase, to_lowercase      the mappings. For src/lib.rt.
--     is_settled                      characters that are lowered to themselves, by a few ranges. For src/lib.rt.
--     Casing                          what holds of them. The proof is `casing` of proofs/Casing.antt
-- Assumes nothing.
use Rattle.std.specs.Prelude.{ℕ, ◌+◌, ◌-◌, ◌*◌, ◌≤◌, ◌<◌, ◌≡◌, Bool, true, false, cond, length}
use mathlib.Core.List.{List, [], ◌∷◌, Memᴰ}
use Rattle.text.specs.Range.{Range, ◌–◌, within, among}
use Rattle.text.specs.Every.{every}
use Rattle.text.specs.Utf8.{is_scalar, octets, utf8_of}
use Rattle.casing.specs.Mapping.{rises, is_right, characters, mapped}
use Rattle.casing.specs.Uppers.{uppers}
use Rattle.casing.specs.Lowers.{lowers}

unfoldable pub to_uppercase : ℕ → List ℕ
to_uppercase c = mapped uppers c

unfoldable pub to_lowercase : ℕ → List ℕ
to_lowercase c = mapped lowers c

-- the mapping that raises, or the one that lowers
abbrev pub cased : Bool → ℕ → List ℕ
cased up c = cond up (to_uppercase c) (to_lowercase c)

-- a letter of ASCII is raised or lowered by 32, and every other character of ASCII is left as it is
abbrev pub ascii_cased : Bool → ℕ → ℕ
ascii_cased true c = cond (within (0x61 – 0x7A) c) (c - 0x20) c
ascii_cased false c = cond (within (0x41 – 0x5A) c) (c + 0x20) c

-- the signs and small letters of Latin-1, phonetic letters and accents, Greek and Cyrillic small letters, scripts without capitals from Armenian's
-- small letters to Burmese, punctuation, and Chinese, Japanese and Korean: most of what is not ASCII
unfoldable pub settled : List Range
settled =
    0x0080 – 0x00BF ∷
    0x00DF – 0x00FF ∷
    0x0250 – 0x036F ∷
    0x03AC – 0x03CE ∷
    0x0430 – 0x045F ∷
    0x0557 – 0x109F ∷
    0x2000 – 0x2125 ∷
    0x2D00 – 0xA63F ∷
    0xAC00 – 0xD7FF ∷
    []

unfoldable pub is_settled : ℕ → Bool
is_settled c = among settled c

pub record Casing : Type 0 where
  -- "each table's rule is proved once over all its rows": two tests for each, which are computed over the whole table
  pub rising-upper : rises uppers ≡ true
  pub rising-lower : rises lowers ≡ true
  pub right-upper : every is_right uppers ≡ true
  pub right-lower : every is_right lowers ≡ true
  -- as many characters as the Rust changes
  pub many-upper : characters uppers ≡ 1580
  pub many-lower : characters lowers ≡ 1488
  -- so an image has one to three characters, each a scalar value
  pub few : (up : Bool) (c : ℕ) → (1 ≤ length (cased up c)) × (length (cased up c) ≤ 3)
  pub scalar : (up : Bool) (c : ℕ) → is_scalar c ≡ true → every is_scalar (cased up c) ≡ true
  -- and at most three times as many octets as its character
  pub size : (up : Bool) (c : ℕ) → length (utf8_of (cased up c)) ≤ 3 * length (octets c)
  -- ASCII needs no table
  pub ascii : (up : Bool) (c : ℕ) → c < 0x80 → cased up c ≡ ascii_cased up c ∷ []
  -- lowering twice is lowering once: every character of a lowered one's image is its own image. Computed over the table
  pub again : (c d : ℕ) → Memᴰ d (to_lowercase c) → to_lowercase d ≡ d ∷ []
  -- a settled character needs no table either: none of its ranges meets a row. Computed over the table. It is neither ASCII nor U+FFFD, which
  -- stands for an octet that begins no character
  pub still : (c : ℕ) → is_settled c ≡ true → to_lowercase c ≡ c ∷ []
  pub beyond : (c : ℕ) → is_settled c ≡ true → (0x80 ≤ c) × (c < 0xFFFD)
