-- The scanner, after unscanny: what stands at a place, and how far characters of a kind go. For src/scanner.rt.
-- Assumes nothing.
use Rattle.std.specs.Prelude.{ℕ, ◌+◌, ◌-◌, ◌≤◌, ◌<◌, min, max, Bool, cond, not, List, [], ◌∷◌, length, take, drop, eqb, Option, Some, None}
use Rattle.text.specs.Utf8.{width, value}
use Rattle.text.specs.Class.{holds_of}
use Rattle.text.specs.Walk.{Look, answer, pass, walk}
use Rattle.text.specs.declared.class.Test.{Test}

-- ---- the first character of a text that has not ended. An octet that begins no sequence is U+FFFD by itself; a valid text has none

-- its code point
unfoldable pub code : List ℕ → ℕ
code s = cond (eqb (width s) 0) 0xFFFD (value (take (width s) s))

-- its octets behind the first
unfoldable pub rest : List ℕ → ℕ
rest s = width s - 1

-- ---- at a place

unfoldable pub see_from : List ℕ → ℕ → Option (ℕ × ℕ)
see_from [] i = None
see_from (b ∷ s) i = Some (code (b ∷ s), i + 1 + rest (b ∷ s))

-- what stands at i: a code point and the place after it, or the end
abbrev pub see : List ℕ → ℕ → Option (ℕ × ℕ)
see s i = see_from (drop i s) i

-- the place after the character
abbrev pub next_of : ℕ → Option (ℕ × ℕ) → ℕ
next_of i None = i
next_of i (Some (c, n)) = n

-- the place after the character where it passes the test p
abbrev pub past_one : (ℕ → Bool) → ℕ → Option (ℕ × ℕ) → ℕ
past_one p i None = i
past_one p i (Some (c, n)) = cond (p c) n i

-- the character x
abbrev pub single : ℕ → ℕ → Bool
single x c = eqb c x

-- ---- while the characters pass the test p

unfoldable pub look_past : (ℕ → Bool) → ℕ → List ℕ → Look ℕ
look_past p i s = cond (p (code s)) (pass (rest s)) (answer i)

unfoldable pub skip : (ℕ → Bool) → List ℕ → ℕ → ℕ
skip p s i = walk (look_past p) (λ n. n) s i

abbrev pub fails : Test → ℕ → Bool
fails t c = not (holds_of t c)

-- ---- places

-- the text from one place to another, as far as it goes
abbrev pub part : List ℕ → ℕ → ℕ → List ℕ
part s a e = take (min e (length s) - a) (drop a s)

-- a scanner that begins at i goes on to r: never back, and not past the end of the text
pub record Ahead (s : List ℕ) (i r : ℕ) : Type 0 where
  pub from : i ≤ r
  pub to : r ≤ max i (length s)

-- what is seen at i ends after i, and inside the text
abbrev pub Inside : List ℕ → ℕ → Option (ℕ × ℕ) → Type 0
Inside s i None = length s ≤ i
Inside s i (Some (c, n)) = (i < n) × (n ≤ length s)
