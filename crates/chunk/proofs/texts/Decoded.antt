-- The characters of a text.
--     chars-step                a text's first octet begins a character, or none
--     plain-text                octets of ASCII that are no line ends are characters by themselves
--     chars-run, decoded        the characters of octets that characters were written as
--     code-scalar               what is read is a scalar value
-- Assumes nothing.
use Rattle.std.proofs.Common.{ℕ, suc, ◌%◌, ◌<◌, arith, ◌≡◌, refl, sym, ap, ap₂, ◌∙◌, Bool, true, false}
use Rattle.std.proofs.Common.{cond, not, List, [], ◌∷◌, ◌++◌, append_assoc, append-nil, length, get_or, take, eqb, ltb, le-leb, ltb-true}
use borrow.Author.Tests.{lt-leb, not-true, eqb-false}
use Rattle.text.specs.Range.{within}
use Rattle.text.specs.Every.{every}
use Rattle.text.specs.Utf8.{tail, is_char, width, value, gather, is_scalar, octets, utf8_of}
use Rattle.text.specs.Scan.{code}
use Rattle.text.specs.Shapes.{one}
use Rattle.text.proofs.general.Tests.{both_true}
use Rattle.text.proofs.Shapes.{shapes}
use Rattle.text.proofs.Rfc3629.{rfc3629}
use Rattle.chunk.specs.Format.{is_line_end}
use Rattle.chunk.specs.Sentence.{chars}
use Rattle.chunk.specs.Inner.{is_plain, heads}
use Rattle.chunk.specs.Characters.{Scalars, none, next}

pub chars-step : (b : ℕ) (t : List ℕ) → chars (b ∷ t) ≡ heads (b ∷ t) ++ chars t
unfolding chars
chars-step b t = by (within tail b)
  where
    by : (x : Bool) → cond x (chars t) (code (b ∷ t) ∷ chars t) ≡ cond x [] (code (b ∷ t) ∷ []) ++ chars t
    by true = refl
    by false = refl

-- ---- ASCII

-- an octet of ASCII is no tail, and a character by itself
pub ascii-char : (b : ℕ) (s : List ℕ) → b < 0x80 → (within tail b ≡ false) × (code (b ∷ s) ≡ b)
unfolding value gather
ascii-char b s h = (rw (lt-leb 0x80 b h), shapes.code-char (b ∷ []) s (shapes.shape-char (one {a = b} (omega arith))) ∙ low b h)
  where
    low : (b : ℕ) → b < 0x80 → b % 128 ≡ b
    low b k = omega arith

pub plain-octet : (b : ℕ) → is_plain b ≡ true → (b < 0x80) × (is_line_end b ≡ false)
plain-octet b e = let h = both_true (ltb b 0x80) (not (is_line_end b)) e in (ltb-true b 0x80 h.0, not-true (is_line_end b) h.1)

pub ascii-octets : (b : ℕ) → b < 0x80 → octets b ≡ b ∷ []
unfolding octets
ascii-octets b h = rw (le-leb b 0x7F (omega arith))

pub ascii-scalar : (b : ℕ) → b < 0x80 → is_scalar b ≡ true
unfolding is_scalar
ascii-scalar b h = rw (le-leb b 0x10FFFF (omega arith), lt-leb 0xD800 b (omega arith))

pub plain-text : (u : List ℕ) → every is_plain u ≡ true → Scalars u × (utf8_of u ≡ u)
unfolding utf8_of every
plain-text [] e = (none, refl)
plain-text (b ∷ u) e =
    let h = both_true (is_plain b) (every is_plain u) e in
    let low = (plain-octet b h.0).0 in
    let rest = plain-text u h.1 in
    (next (ascii-scalar b low) rest.0, ap₂ ◌++◌ (ascii-octets b low) rest.1)

-- ---- what characters were written as

-- tails begin no character
chars-tails : (w t : List ℕ) → ((n : ℕ) → n < length w → within tail (get_or w n 0) ≡ true) → chars (w ++ t) ≡ chars t
unfolding chars
chars-tails [] t h = refl
chars-tails (b ∷ w) t h = rw (h 0 (omega arith)) (chars-tails w t (λ n l. h (suc n) (omega arith)))

chars-char : (w t : List ℕ) → is_char w ≡ true → chars (w ++ t) ≡ value w ∷ chars t
unfolding chars
chars-char [] t e = absurd (omega (arith, (shapes.char-some [] e).0))
chars-char (b ∷ w) t e =
    rw (shapes.char-first (b ∷ w) t 0 e)
    (ap₂ ◌∷◌ (shapes.code-char (b ∷ w) t e)
    (chars-tails w t (λ n l. shapes.char-further (b ∷ w) (suc n) 0 e (omega arith) (omega arith))))

pub chars-run : (cs t : List ℕ) → Scalars cs → chars (utf8_of cs ++ t) ≡ cs ++ chars t
unfolding utf8_of
chars-run [] t s = refl
chars-run (c ∷ cs) t (next e s) =
    ap chars (append_assoc (octets c) (utf8_of cs) t)
    ∙ chars-char (octets c) (utf8_of cs ++ t) (rfc3629.writes c e)
    ∙ ap₂ ◌∷◌ (shapes.reads c e) (chars-run cs t s)

pub decoded : (cs : List ℕ) → Scalars cs → chars (utf8_of cs) ≡ cs
unfolding chars
decoded cs s = ap chars (sym (append-nil (utf8_of cs))) ∙ chars-run cs [] s ∙ append-nil cs

pub code-scalar : (u : List ℕ) → is_scalar (code u) ≡ true
unfolding code is_scalar
code-scalar u = by (eqb (width u) 0) refl
  where
    by : (x : Bool) → eqb (width u) 0 ≡ x → is_scalar (cond x 0xFFFD (value (take (width u) u))) ≡ true
    by true p = refl
    by false p =
        let some : 0 < width u = omega (arith, eqb-false (width u) 0 p) in (rfc3629.encodes (take (width u) u) (shapes.width-char u some).0).0
