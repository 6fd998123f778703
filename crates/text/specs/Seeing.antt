-- What the definitions of `Scan` settle: laws of `see` and `skip`, on which the crates above rest. The proof is `seeing` of
-- proofs/Seeing.antt. Assumes nothing.
use Rattle.std.specs.Prelude.{ℕ, ◌+◌, ◌≤◌, ◌<◌, ◌≡◌, Bool, true, false, ◌||◌, List, ◌∷◌, ◌++◌, length, get_or, drop, eqb, Option, Some, None}
use Rattle.text.specs.Range.{within}
use Rattle.text.specs.Utf8.{tail}
use Rattle.text.specs.Class.{is_whitespace, is_id_start, is_id_continue}
use Rattle.text.specs.Scan.{code, rest, see, next_of, past_one, skip, Ahead, Inside}
use Rattle.text.specs.Inner.{Letters}

-- what is seen, d places on
abbrev pub seen_up : ℕ → Option (ℕ × ℕ) → Option (ℕ × ℕ)
seen_up d None = None
seen_up d (Some (c, n)) = Some (c, n + d)

pub record Seeing : Type 0 where
  -- at the end of the text nothing is seen; before it, its first character from there on
  pub see-end : (s : List ℕ) (i : ℕ) → length s ≤ i → see s i ≡ None
  pub see-at : (s : List ℕ) (i : ℕ) → i < length s → see s i ≡ Some (code (drop i s), i + 1 + rest (drop i s))
  -- an octet of ASCII is a character by itself, and every other octet begins one that is not ASCII
  pub see-ascii : (s : List ℕ) (i : ℕ) → i < length s → get_or s i 0 < 0x80 → see s i ≡ Some (get_or s i 0, i + 1)
  pub code-wide : (b : ℕ) (s : List ℕ) → 0x80 ≤ b → 0x80 ≤ code (b ∷ s)
  -- a character ends after its place, and inside the text: of what is seen, of a character that is seen, and of one that a call answered
  pub see-inside : (s : List ℕ) (i : ℕ) → Inside s i (see s i)
  pub see-ahead : (s : List ℕ) (p c n : ℕ) → see s p ≡ Some (c, n) → (p < n) × (n ≤ length s)
  pub char-inside : (s : List ℕ) (i : ℕ) {g : Option (ℕ × ℕ)} {c n : ℕ} → Inside s i g → g ≡ Some (c, n) → (i < n) × (n ≤ length s)
  -- a text shows the same where it stands behind another text, and where one follows it that does not begin with a tail
  pub see-up : (a s : List ℕ) (p : ℕ) → see (a ++ s) (p + length a) ≡ seen_up (length a) (see s p)
  pub see-front : (s t : List ℕ) (p : ℕ) → within tail (get_or t 0 256) ≡ false → p < length s → see (s ++ t) p ≡ see s p
  -- a scan ends at the end of the text, goes on past a character that passes the test, and ends at one that does not
  pub skip-end : (p : ℕ → Bool) (s : List ℕ) (i : ℕ) → length s ≤ i → skip p s i ≡ i
  pub skip-on : (p : ℕ → Bool) (s : List ℕ) (i : ℕ) → i < length s → p (code (drop i s)) ≡ true →
      skip p s i ≡ skip p s (i + 1 + rest (drop i s))
  pub skip_stop : (p : ℕ → Bool) (s : List ℕ) (i : ℕ) → i < length s → p (code (drop i s)) ≡ false → skip p s i ≡ i
  -- a character that is seen: its parts, the place after it, and the byte that it is where it is ASCII
  pub char-parts : (s : List ℕ) (p c n : ℕ) → see s p ≡ Some (c, n) → (p < length s) × (c ≡ code (drop p s)) × (n ≡ p + 1 + rest (drop p s))
  pub next-inside : (s : List ℕ) (p : ℕ) → p ≤ length s → (p ≤ next_of p (see s p)) × (next_of p (see s p) ≤ length s)
  pub at_byte : (s : List ℕ) (p b : ℕ) → p < length s → get_or s p 0 ≡ b → b < 0x80 → see s p ≡ Some (b, p + 1)
  pub byte_of : (s : List ℕ) (p c n : ℕ) → see s p ≡ Some (c, n) → c < 0x80 → get_or s p 0 ≡ c
  -- white space goes on behind a character of it
  pub white-on : (s : List ℕ) (p c n : ℕ) → see s p ≡ Some (c, n) → is_whitespace c ≡ true → skip is_whitespace s p ≡ skip is_whitespace s n
  -- a scan that begins in the text stops in it or at its end, and where it stops inside, the test fails
  pub skip-inside : (t : ℕ → Bool) (s : List ℕ) (p : ℕ) → p ≤ length s → (p ≤ skip t s p) × (skip t s p ≤ length s)
  pub skip_at : (t : ℕ → Bool) (s : List ℕ) (n i : ℕ) → length s ≤ i + n → skip t s i < length s → t (code (drop (skip t s i) s)) ≡ false
  -- it never goes back, and not past the end
  pub skip-ahead : (p : ℕ → Bool) (s : List ℕ) (i : ℕ) → Ahead s i (skip p s i)
  -- letters of ASCII before a space, or before another byte that cannot be part of an identifier, are a whole one
  pub letters-id : {s : List ℕ} {i r x : ℕ} → Letters s i r → i < r → r < length s → x < 0x80 → is_id_continue x ≡ false →
      (eqb (get_or s r 0) 0x20 || eqb (get_or s r 0) x) ≡ true → (i + 1 ≡ past_one is_id_start i (see s i)) × (r ≡ skip is_id_continue s (i + 1))
