-- A Normal text in sentence case, part by part.
--     still-not         `first` does not come back
--     said-append       one part of the characters after the other
--     quiet-said        a run that ASCII's rule is enough for, behind the first character
--     unbroken-scalar   a blank in place of a line end
-- Assumes nothing.
use Rattle.std.proofs.Common.{ℕ, ◌+◌, ◌-◌, ◌≤◌, ◌<◌, arith, ◌≡◌, refl, sym, ap, ap₂, ◌∙◌, Bool}
use Rattle.std.proofs.Common.{true, false, cond, ◌&&◌, ◌||◌, List, [], ◌∷◌, ◌++◌, map, append_assoc, append-nil, length}
use mathlib.Core.List.{map-append}
use Rattle.text.specs.Range.{◌–◌, within}
use Rattle.text.specs.Every.{every}
use Rattle.text.specs.Utf8.{is_scalar, octets, utf8_of}
use Rattle.text.specs.Class.{is_whitespace}
use Rattle.text.proofs.general.Tests.{both_true, within-true}
use Rattle.text.proofs.Shapes.{shapes}
use Rattle.text.proofs.Rfc3629.{rfc3629}
use Rattle.casing.specs.Casing.{cased, ascii_cased, is_settled}
use Rattle.casing.proofs.Casing.{casing}
use Rattle.chunk.specs.Format.{Written, written, before, is_line_end, ends_white}
use Rattle.chunk.specs.Sentence.{unbroken, sentence_chars}
use Rattle.chunk.specs.Inner.{is_plain, is_quiet, still_first}
use Rattle.chunk.specs.Characters.{Scalars, next, char_ends_white}
use Rattle.chunk.proofs.texts.Decoded.{plain-octet, ascii-octets}
use Rattle.chunk.proofs.texts.QuietRuns.{quiet_line, high-low}
use Rattle.chunk.proofs.texts.PassedSequences.{code-high}
use Rattle.chunk.proofs.Characters.{characters}

pub still-not : (w : Bool) (cs : List ℕ) → still_first false w cs ≡ false
unfolding still_first
still-not w [] = refl
still-not w (c ∷ cs) = by (is_line_end c && w) (still-not w cs)
  where
    by : (x : Bool) → still_first false w cs ≡ false → cond x (still_first false w cs) false ≡ false
    by true e = e
    by false e = refl

pub said-append : (f w : Bool) (cs ds : List ℕ) →
    sentence_chars f w (cs ++ ds) ≡ before (sentence_chars f w cs).text (sentence_chars (still_first f w cs) (sentence_chars f w cs).white ds)
unfolding sentence_chars still_first
said-append f w [] ds = refl
said-append f w (c ∷ cs) ds = by (is_line_end c && w) (said-append f w cs ds) (said-append false v cs ds)
  where
    v : Bool
    v = is_whitespace (unbroken c)

    one : List ℕ
    one = utf8_of (cased f (unbroken c))

    rest : Written
    rest = sentence_chars false v cs

    by : (x : Bool) →
        sentence_chars f w (cs ++ ds) ≡ before (sentence_chars f w cs).text (sentence_chars (still_first f w cs) (sentence_chars f w cs).white ds) →
        sentence_chars false v (cs ++ ds) ≡ before rest.text (sentence_chars (still_first false v cs) rest.white ds) →
        cond x (sentence_chars f w (cs ++ ds)) (before one (sentence_chars false v (cs ++ ds)))
        ≡ before (cond x (sentence_chars f w cs) (before one rest)).text
        (sentence_chars (cond x (still_first f w cs) false) (cond x (sentence_chars f w cs) (before one rest)).white ds)
    by true p q = p
    by false p q =
        ap (before one) (q ∙ ap (λ (y : Bool). before rest.text (sentence_chars y rest.white ds)) (still-not v cs))
        ∙ ap (λ (u : List ℕ). written u (sentence_chars false rest.white ds).white)
        (sym (append_assoc one rest.text (sentence_chars false rest.white ds).text))

-- ---- ASCII, and what it is enough for

pub ascii-cased : (up : Bool) (b : ℕ) → b < 0x80 → ascii_cased up b < 0x80
ascii-cased true b h = by (within (0x61 – 0x7A) b)
  where
    by : (x : Bool) → cond x (b - 0x20) b < 0x80
    by true = omega arith
    by false = h
ascii-cased false b h = by (within (0x41 – 0x5A) b) refl
  where
    by : (x : Bool) → within (0x41 – 0x5A) b ≡ x → cond x (b + 0x20) b < 0x80
    by true e = let k = within-true (0x41 – 0x5A) b e in omega (arith, k.1)
    by false e = h

-- a character of ASCII is written as one octet
pub ascii-written : (up : Bool) (b : ℕ) → b < 0x80 → utf8_of (cased up b) ≡ ascii_cased up b ∷ []
unfolding utf8_of
ascii-written up b h =
    ap utf8_of (casing.ascii up b h) ∙ ap (λ (u : List ℕ). u ++ []) (ascii-octets (ascii_cased up b) (ascii-cased up b h))

-- whether white space comes last, where it did before these characters or did not
abbrev white_after : Bool → List ℕ → Bool
white_after w [] = w
white_after w (c ∷ cs) = char_ends_white (c ∷ cs)

-- a quiet character is written as its octets, lowered by ASCII's rule
quiet-written : (c : ℕ) → is_scalar c ≡ true → is_quiet c ≡ true → utf8_of (cased false c) ≡ map (ascii_cased false) (octets c)
unfolding utf8_of
quiet-written c s e = by (is_plain c) refl e
  where
    by : (x : Bool) → is_plain c ≡ x → (x || is_settled c) ≡ true → utf8_of (cased false c) ≡ map (ascii_cased false) (octets c)
    by true p q =
        let low = (plain-octet c p).0 in ascii-written false c low ∙ sym (ap (map (ascii_cased false)) (ascii-octets c low))
    by false p q =
        ap utf8_of (casing.still c q) ∙ append-nil (octets c) ∙ sym (high-low (code-high c s (casing.beyond c q).0))

quiet-turns : (cs : List ℕ) (w : Bool) → Scalars cs → every is_quiet cs ≡ true →
    sentence_chars false w cs ≡ written (map (ascii_cased false) (utf8_of cs)) (white_after w cs)
unfolding sentence_chars every utf8_of char_ends_white
quiet-turns [] w s e = refl
quiet-turns (c ∷ cs) w (next d s) e =
    let h = both_true (is_quiet c) (every is_quiet cs) e in
    rw (quiet_line c h.0)
    (ap₂ (λ (v : List ℕ) (x : Written). before v x) (quiet-written c d h.0) (quiet-turns cs (is_whitespace c) s h.1)
    ∙ ap₂ written (sym (map-append (ascii_cased false) (octets c) (utf8_of cs))) (last cs))
  where
    last : (cs : List ℕ) → white_after (is_whitespace c) cs ≡ white_after w (c ∷ cs)
    last [] = refl
    last (d ∷ cs) = refl

pub quiet-said : (w : Bool) (cs : List ℕ) → 0 < length (utf8_of cs) → Scalars cs → every is_quiet cs ≡ true →
    sentence_chars false w cs ≡ written (map (ascii_cased false) (utf8_of cs)) (ends_white (utf8_of cs))
unfolding utf8_of
quiet-said w cs l s e = quiet-turns cs w s e ∙ ap (written (map (ascii_cased false) (utf8_of cs))) (some cs l ∙ sym (characters.ended cs s))
  where
    some : (cs : List ℕ) → 0 < length (utf8_of cs) → white_after w cs ≡ char_ends_white cs
    some [] l = absurd (omega arith)
    some (c ∷ cs) l = refl

-- a blank in place of a line end is a scalar value too, and no longer
pub unbroken-scalar : (c : ℕ) → is_scalar c ≡ true → (is_scalar (unbroken c) ≡ true) × (length (octets (unbroken c)) ≤ length (octets c))
unfolding is_scalar octets
unbroken-scalar c e = by (is_line_end c)
  where
    by : (x : Bool) → (is_scalar (cond x 0x20 c) ≡ true) × (length (octets (cond x 0x20 c)) ≤ length (octets c))
    by true = (refl, (shapes.char-some (octets c) (rfc3629.writes c e)).0)
    by false = (e, omega arith)
