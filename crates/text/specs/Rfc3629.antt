-- What the definitions of `Utf8` settle. Demand 2: "UTF-8, white space and accent composition are proved against RFC 3629 and Unicode".
-- The proof is `rfc3629` of proofs/Rfc3629.antt. Assumes nothing.
use Rattle.std.specs.Prelude.{ℕ, ◌+◌, ◌≤◌, ◌<◌, ◌≡◌, ◌↔◌, true, List, ◌++◌, length, get_or, take, drop, Ok, Err}
use Rattle.text.specs.Utf8.{is_char, Octets, sequence_length, value, is_scalar, octets, validity_of, decode_at, is_boundary}
use Rattle.text.specs.declared.utf8.Decoded.TheVariants as decoded

-- n is the end of the longest beginning of s that is UTF-8, and not the end of s
pub record Longest (s : List ℕ) (n : ℕ) : Type 0 where
  pub inside : n < length s
  pub valid : Octets (take n s)
  pub most : (m : ℕ) → m ≤ length s → Octets (take m s) → m ≤ n

-- n cuts s into two texts
pub record Cut (s : List ℕ) (n : ℕ) : Type 0 where
  pub inside : n ≤ length s
  pub before : Octets (take n s)
  pub after : Octets (drop n s)

pub record Rfc3629 : Type 0 where
  -- `validate` accepts exactly the concatenations of the grammar's sequences, and otherwise names the end of the longest such prefix
  pub accepts : (s : List ℕ) → (validity_of s ≡ Ok tt) ↔ Octets s
  pub refuses : (s : List ℕ) (n : ℕ) → (validity_of s ≡ Err (record { at = n })) ↔ Longest s n
  -- what `encode` writes is a sequence, and `decode` gives the scalar value back, wherever it stands
  pub writes : (c : ℕ) → is_scalar c ≡ true → is_char (octets c) ≡ true
  pub decodes : (c : ℕ) (before after : List ℕ) → is_scalar c ≡ true →
      decode_at (before ++ octets c ++ after) (length before) ≡ decoded.Char c (length before + length (octets c))
  -- every sequence is what `encode` writes of its value, which is no surrogate and not above 10FFFF
  pub encodes : (w : List ℕ) → is_char w ≡ true → (is_scalar (value w) ≡ true) × (octets (value w) ≡ w)
  -- no overlong form: a value has one sequence
  pub shortest : (v w : List ℕ) → is_char v ≡ true → is_char w ≡ true → value v ≡ value w → v ≡ w
  -- [01:Strict reading] the length of a sequence is the number of leading one bits of its first byte, none meaning one
  pub leads : (w : List ℕ) → is_char w ≡ true → sequence_length (get_or w 0 0) ≡ length w
  -- in a text, a boundary is a place that cuts no sequence
  pub boundary : (s : List ℕ) (n : ℕ) → Octets s → (is_boundary s n ≡ true) ↔ Cut s n
