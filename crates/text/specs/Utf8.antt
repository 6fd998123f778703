-- UTF-8, a transformation format of ISO 10646 [RFC3629]. For src/utf8.rt: `sequence_length`, `validity`, `decode_at`, `Encode`,
-- `is_boundary`; for the theorems: `is_char`, `Octets`, `is_scalar`, `octets`, `utf8_of`, `value`.
-- Assumes nothing.
use Rattle.std.specs.Prelude.{Result, Ok, Err, ⊤}
use Rattle.text.specs.declared.utf8.EncodeError.{EncodeError}
use Rattle.text.specs.declared.utf8.IllFormed.{IllFormed}
use Rattle.text.specs.declared.utf8.EncodeError.TheVariants.{NoRoom}
use Rattle.text.specs.declared.utf8.EncodeError.TheVariants.{NotScalar}
use Rattle.std.specs.Prelude.{ℕ, zero, suc, ◌+◌, ◌-◌, ◌*◌, ◌/◌, ◌%◌, ◌^◌, ◌≡◌, Bool, true, false, cond, not, ◌&&◌, ◌||◌, List, [], ◌∷◌, ◌++◌, length, get_or, take, drop, eqb, leb}
use Rattle.text.specs.Range.{Range, ◌–◌, within}
use Rattle.text.specs.Walk.{Look, answer, pass, walk}
use Rattle.text.specs.declared.utf8.Decoded.{Decoded}
use Rattle.text.specs.declared.utf8.Decoded.TheVariants as decoded

-- ---- the grammar

-- [RFC3629:4] UTF8-tail
abbrev pub tail : Range
tail = 0x80 – 0xBF

-- [RFC3629:4] UTF8-1, UTF8-2, the four of UTF8-3 and the three of UTF8-4, line by line
unfoldable pub alternatives : List (List Range)
alternatives =
    (0x00 – 0x7F ∷ []) ∷
    (0xC2 – 0xDF ∷ tail ∷ []) ∷
    (0xE0 – 0xE0 ∷ 0xA0 – 0xBF ∷ tail ∷ []) ∷
    (0xE1 – 0xEC ∷ tail ∷ tail ∷ []) ∷
    (0xED – 0xED ∷ 0x80 – 0x9F ∷ tail ∷ []) ∷
    (0xEE – 0xEF ∷ tail ∷ tail ∷ []) ∷
    (0xF0 – 0xF0 ∷ 0x90 – 0xBF ∷ tail ∷ tail ∷ []) ∷
    (0xF1 – 0xF3 ∷ tail ∷ tail ∷ tail ∷ []) ∷
    (0xF4 – 0xF4 ∷ 0x80 – 0x8F ∷ tail ∷ tail ∷ []) ∷
    []

-- s begins with an octet of each range
unfoldable pub begins : List Range → List ℕ → Bool
begins [] s = true
begins (r ∷ rs) [] = false
begins (r ∷ rs) (b ∷ s) = within r b && begins rs s

-- [RFC3629:4] UTF8-char: w is the octets of one of these alternatives, and no more
unfoldable pub one_of : List (List Range) → List ℕ → Bool
one_of [] w = false
one_of (a ∷ others) w = (begins a w && eqb (length a) (length w)) || one_of others w

abbrev pub is_char : List ℕ → Bool
is_char w = one_of alternatives w

-- [RFC3629:4] UTF8-octets = *( UTF8-char )
pub data Octets : List ℕ → Type 0 where
  none : Octets []
  next : (w : List ℕ) {s : List ℕ} → is_char w ≡ true → Octets s → Octets (w ++ s)

-- ---- the sequence that a text begins with

-- the number of octets of the first of these alternatives that s begins with, and 0 where there is none
unfoldable pub width_by : List (List Range) → List ℕ → ℕ
width_by [] s = 0
width_by (a ∷ others) s = cond (begins a s) (length a) (width_by others s)

abbrev pub width : List ℕ → ℕ
width s = width_by alternatives s

-- [01:Strict reading] the number of leading one bits of the first byte, none meaning one: of the k lowest bits of b,
-- read from the highest
abbrev pub one_more : ℕ → ℕ → ℕ
one_more zero n = 0
one_more (suc d) n = suc n

unfoldable pub leading_ones : ℕ → ℕ → ℕ
leading_ones zero b = 0
leading_ones (suc k) b = one_more (b / 2 ^ k % 2) (leading_ones k b)

abbrev pub or_one : ℕ → ℕ
or_one zero = 1
or_one (suc n) = suc n

unfoldable pub sequence_length : ℕ → ℕ
sequence_length b = or_one (leading_ones 8 b)

-- ---- code points

-- [RFC3629:3] the low bits of the first of so many octets: 0xxxxxxx, 110xxxxx, 1110xxxx, 11110xxx
abbrev pub first_bits : ℕ → ℕ
first_bits zero = 2 ^ 7
first_bits (suc zero) = 2 ^ 5
first_bits (suc (suc zero)) = 2 ^ 4
first_bits (suc (suc (suc n))) = 2 ^ 3

-- the low six bits of each further octet, 10xxxxxx, behind those of v
unfoldable pub gather : ℕ → List ℕ → ℕ
gather v [] = v
gather v (b ∷ w) = gather (v * 64 + b % 64) w

unfoldable pub value : List ℕ → ℕ
value [] = 0
value (a ∷ w) = gather (a % first_bits (length w)) w

-- [RFC3629:3] up to 10FFFF, without D800 to DFFF
unfoldable pub is_scalar : ℕ → Bool
is_scalar c = leb c 0x10FFFF && not (within (0xD800 – 0xDFFF) c)

abbrev pub further : ℕ → ℕ
further c = 0x80 + c % 64

-- [RFC3629:3] the table: the octets of a scalar value
unfoldable pub octets : ℕ → List ℕ
octets c =
    cond (leb c 0x7F) (c ∷ [])
    (cond (leb c 0x7FF) ((0xC0 + c / 64) ∷ further c ∷ [])
    (cond (leb c 0xFFFF) ((0xE0 + c / 64 / 64) ∷ further (c / 64) ∷ further c ∷ [])
    ((0xF0 + c / 64 / 64 / 64) ∷ further (c / 64 / 64) ∷ further (c / 64) ∷ further c ∷ [])))

-- the octets of characters, one behind the other
unfoldable pub utf8_of : List ℕ → List ℕ
utf8_of [] = []
utf8_of (c ∷ cs) = octets c ++ utf8_of cs

-- ---- what the functions answer

-- [01:Numbers a caller can get] valid, or the first byte of the first ill-formed sequence
unfoldable pub look_valid : ℕ → List ℕ → Look (Result ⊤ IllFormed)
look_valid i s = cond (eqb (width s) 0) (answer (Err (record { at = i }))) (pass (width s - 1))

unfoldable pub validity_of : List ℕ → Result ⊤ IllFormed
validity_of s = walk look_valid (λ n. (Ok tt)) s 0

-- what stands at i, where s is the text from there on
unfoldable pub decode_from : List ℕ → ℕ → Decoded
decode_from [] i = decoded.End
decode_from (b ∷ s) i =
    cond (eqb (width (b ∷ s)) 0) decoded.IllFormed (decoded.Char (value (take (width (b ∷ s)) (b ∷ s))) (i + width (b ∷ s)))

abbrev pub decode_at : List ℕ → ℕ → Decoded
decode_at s i = decode_from (drop i s) i

-- `encode` of c over the lent bytes b answers r and leaves b': no scalar value is refused first, then too little room
abbrev pub fits : ℕ → List ℕ → Bool
fits c b = leb (length (octets c)) (length b)

pub record Encode (c : ℕ) (b : List ℕ) (r : Result ℕ EncodeError) (b' : List ℕ) : Type 0 where
  pub answer : r ≡ cond (is_scalar c) (cond (fits c b) (Ok (length (octets c))) (Err NoRoom)) (Err NotScalar)
  pub bytes : b' ≡ cond (is_scalar c && fits c b) (octets c ++ drop (length (octets c)) b) b

-- a place of the text, or its end, at which no tail of a sequence stands. Past the end `get_or` gives 256, which is no octet
unfoldable pub is_boundary : List ℕ → ℕ → Bool
is_boundary s n = leb n (length s) && not (within tail (get_or s n 256))
