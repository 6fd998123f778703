-- What the grammar of `Utf8` settles of sequences and of texts made of them: laws on which the crates above rest, beside `Rfc3629`. The
-- proof is `shapes` of proofs/Shapes.antt. Assumes nothing.
use Rattle.std.specs.Prelude.{ℕ, ◌+◌, ◌*◌, ◌≤◌, ◌<◌, ◌≡◌, true, false, List, [], ◌∷◌, ◌++◌, length, get_or, take}
use Rattle.text.specs.Range.{within}
use Rattle.text.specs.Utf8.{tail, is_char, Octets, width, value, is_scalar, octets}
use Rattle.text.specs.Scan.{code}

-- ---- the sequences of one, two, three and four octets

pub record Tail (b : ℕ) : Type 0 where
  pub low : 0x80 ≤ b
  pub high : b ≤ 0xBF

-- three octets: E0 is followed by A0 or more, and ED by 9F or less
pub record Three (a b c : ℕ) : Type 0 where
  pub low : 0xE0 * 64 + 0xA0 ≤ a * 64 + b
  pub high : a ≤ 0xEF
  pub second : Tail b
  pub third : Tail c
  pub plain : a ≡ 0xED → b ≤ 0x9F

-- four octets: F0 is followed by 90 or more, and F4 by 8F or less
pub record Four (a b c d : ℕ) : Type 0 where
  pub low : 0xF0 * 64 + 0x90 ≤ a * 64 + b
  pub high : a * 64 + b ≤ 0xF4 * 64 + 0x8F
  pub second : Tail b
  pub third : Tail c
  pub fourth : Tail d

pub data Shape : List ℕ → Type 0 where
  one : {a : ℕ} → a ≤ 0x7F → Shape (a ∷ [])
  two : {a b : ℕ} → 0xC2 ≤ a → a ≤ 0xDF → Tail b → Shape (a ∷ b ∷ [])
  three : {a b c : ℕ} → Three a b c → Shape (a ∷ b ∷ c ∷ [])
  four : {a b c d : ℕ} → Four a b c d → Shape (a ∷ b ∷ c ∷ d ∷ [])

pub record Shapes : Type 0 where
  -- a sequence has one of these shapes, and what has one is a sequence
  pub char-shape : (w : List ℕ) → is_char w ≡ true → Shape w
  pub shape-char : {w : List ℕ} → Shape w → is_char w ≡ true
  -- it has an octet, and four at most
  pub char-some : (w : List ℕ) → is_char w ≡ true → (0 < length w) × (length w ≤ 4)
  -- its first octet is no tail, also where a text follows; d is what `get_or` gives past the end. Its other octets are tails
  pub char-first : (w t : List ℕ) (d : ℕ) → is_char w ≡ true → within tail (get_or (w ++ t) 0 d) ≡ false
  pub char-further : (w : List ℕ) (n d : ℕ) → is_char w ≡ true → 0 < n → n < length w → within tail (get_or w n d) ≡ true
  -- the sequence that a text begins with lies inside it, and a text that begins with a tail begins with none
  pub width-char : (u : List ℕ) → 0 < width u → (is_char (take (width u) u) ≡ true) × (width u ≤ length u)
  pub width-tail : (b : ℕ) (s : List ℕ) → within tail b ≡ true → width (b ∷ s) ≡ 0
  -- the scanner reads its value, and what `encode` writes of a scalar value has this value
  pub code-char : (w t : List ℕ) → is_char w ≡ true → code (w ++ t) ≡ value w
  pub reads : (c : ℕ) → is_scalar c ≡ true → value (octets c) ≡ c
  -- a sequence is UTF-8; two texts that are UTF-8 are so when put together; where a text and a beginning of it are UTF-8, so is the rest
  pub octets-char : (w : List ℕ) → is_char w ≡ true → Octets w
  pub octets-append : {u t : List ℕ} → Octets u → Octets t → Octets (u ++ t)
  pub octets-after : {u : List ℕ} (t : List ℕ) → Octets u → Octets (u ++ t) → Octets t
  -- an octet of ASCII is a text that is UTF-8, and so is what `encode` writes of a scalar value
  pub ascii-text : (b : ℕ) → b ≤ 0x7F → Octets (b ∷ [])
  pub char-text : (c : ℕ) → is_scalar c ≡ true → Octets (octets c)
