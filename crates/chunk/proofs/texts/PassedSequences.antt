-- Sequences that the writers write unchanged.
--     ascii                        a character of ASCII is a sequence
--     Kept, kept                   a sequence is a character of ASCII, or has no octet of ASCII
--     high-plain, high-escaped     octets above ASCII are no line ends, and are not escaped
-- Assumes nothing.
use Rattle.std.proofs.Common.{ℕ, ◌+◌, ◌*◌, ◌%◌, ◌≤◌, arith, ◌≡◌, refl, ap, ap₂, subst, ◌∙◌, Bool, true, false, not, ◌&&◌, ◌||◌, List, [], ◌∷◌, eqb, leb, ne_eqb, leb-true}
use Rattle.text.specs.Utf8.{is_char, is_scalar, octets, value, gather}
use Rattle.text.specs.Class.{mark}
use Rattle.text.proofs.general.Tests.{both_true}
use Rattle.text.specs.Shapes.{Shape, one, two, three, four}
use Rattle.text.proofs.Shapes.{shapes}
use Rattle.text.proofs.Rfc3629.{rfc3629}
use Rattle.chunk.specs.Format.{is_line_end, always_marks, plain_marks, is_escapable, escaped}
use Rattle.chunk.specs.Inner.{plain}

pub ascii : (b : ℕ) → b ≤ 0x7F → is_char (b ∷ []) ≡ true
ascii b h = shapes.shape-char (one h)

-- octets above ASCII are no line ends, and are not escaped
pub high-line : (b : ℕ) → 0x80 ≤ b → is_line_end b ≡ false
high-line b h = rw (ne_eqb b 0x0A (λ e. omega arith), ne_eqb b 0x0D (λ e. omega arith))

-- all marks of the list are ASCII
abbrev low-marks : List ℕ → Bool
low-marks [] = true
low-marks (m ∷ ms) = leb m 0x7F && low-marks ms

high-mark : (b : ℕ) → 0x80 ≤ b → (ms : List ℕ) → low-marks ms ≡ true → mark ms b ≡ false
high-mark b h [] e = refl
high-mark b h (m ∷ ms) e =
    let l = both_true (leb m 0x7F) (low-marks ms) e in
    let low = leb-true m 0x7F l.0 in rw (ne_eqb b m (λ q. omega (arith, low, q, h))) (high-mark b h ms l.1)

pub high-escape : (verb : Bool) (b : ℕ) → 0x80 ≤ b → is_escapable b verb false ≡ false
unfolding is_escapable
high-escape verb b h =
    let always = high-mark b h always_marks refl in
    let plain = high-mark b h plain_marks refl in
    ap₂ (λ (x y : Bool). x || (y && not verb) || (eqb b 0x3A && false)) always plain ∙ by (eqb b 0x3A)
  where
    by : (z : Bool) → (false || (false && not verb) || (z && false)) ≡ false
    by true = refl
    by false = refl

-- no octet is ASCII
pub data High : List ℕ → Type 0 where
  end : High []
  on : {b : ℕ} {w : List ℕ} → 0x80 ≤ b → High w → High (b ∷ w)

-- a character of ASCII, or a sequence with no octet of ASCII
pub data Kept : List ℕ → Type 0 where
  low : {b : ℕ} → b ≤ 0x7F → Kept (b ∷ [])
  high : {w : List ℕ} → High w → Kept w

pub kept : {w : List ℕ} → Shape w → Kept w
kept (one h) = low h
kept (two {a} l h t) = high (on (up a l) (on t.low end))
  where
    up : (a : ℕ) → 0xC2 ≤ a → 0x80 ≤ a
    up a l = omega arith
kept (three {a} {b} s) = high (on (up a b s.low s.second.high) (on s.second.low (on s.third.low end)))
  where
    up : (a b : ℕ) → 0xE0 * 64 + 0xA0 ≤ a * 64 + b → b ≤ 0xBF → 0x80 ≤ a
    up a b l h = omega arith
kept (four {a} {b} s) = high (on (up a b s.low s.second.high) (on s.second.low (on s.third.low (on s.fourth.low end))))
  where
    up : (a b : ℕ) → 0xF0 * 64 + 0x90 ≤ a * 64 + b → b ≤ 0xBF → 0x80 ≤ a
    up a b l h = omega arith

pub high-plain : {w : List ℕ} → High w → plain w ≡ true
unfolding plain
high-plain end = refl
high-plain (on {b} h k) = rw (high-line b h) (high-plain k)

pub high-escaped : (verb : Bool) {w : List ℕ} → High w → escaped verb w ≡ w
unfolding escaped
high-escaped verb end = refl
high-escaped verb (on {b} {w} h k) = rw (high-escape verb b h) (ap (λ (x : List ℕ). b ∷ x) (high-escaped verb k))

-- no octet of a character above ASCII is ASCII
pub code-high : (c : ℕ) → is_scalar c ≡ true → 0x80 ≤ c → High (octets c)
unfolding value gather
code-high c e l = by (kept (shapes.char-shape (octets c) (rfc3629.writes c e))) refl
  where
    by : {w : List ℕ} → Kept w → w ≡ octets c → High (octets c)
    by (low {b} h) q = let v : b % 128 ≡ c = ap value q ∙ shapes.reads c e in absurd (omega (arith, v, h, l))
    by (high h) q = subst High q h

pub differ : true ≡ false → ⊥
differ e = let z : ◌≡◌ {A = ℕ} 0 1 = cc in omega (arith, z)
