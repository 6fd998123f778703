-- How many octets chunks have in sentence case, at most, and that they are UTF-8.
--     said_of                        a text that is UTF-8, by its characters
--     sentence-most, surely-said     two octets for each chunk, and three times its text; so they fit where these do
--     sentence-octets                what is written of texts that are UTF-8 is UTF-8
-- Assumes nothing.
use Rattle.std.proofs.Common.{ℕ, ◌+◌, ◌*◌, ◌≤◌, arith, ◌≡◌, sym, ap, subst, ◌∙◌, Bool, true, false, cond, ◌&&◌, List, [], ◌∷◌, map, length, length-append, leb, leb-true}
use Rattle.text.specs.Every.{every}
use Rattle.text.specs.Utf8.{Octets, is_scalar, octets, utf8_of}
use Rattle.text.specs.Utf8 as octets
use Rattle.text.specs.Class.{is_whitespace}
use Rattle.text.proofs.general.Parts.{part-size}
use Rattle.text.proofs.general.Tests.{both_true}
use Rattle.text.proofs.Shapes.{shapes}
use Rattle.casing.specs.Casing.{cased}
use Rattle.casing.proofs.Casing.{casing}
use Rattle.chunk.specs.declared.form.Kind.{Kind}
use Rattle.chunk.specs.declared.form.Kind.TheVariants.{Normal, Verbatim, Math}
use Rattle.chunk.specs.Chunk.{Chunk, ChunkRow, chunk_rows, chunk_of, chunks_of}
use Rattle.chunk.specs.Format.{before, is_line_end}
use Rattle.chunk.specs.Sentence.{chars, unbroken, sentence_chars, sentence_one, sentence_from, format_sentence}
use Rattle.chunk.specs.Inner.{most_of}
use Rattle.chunk.specs.Characters.{Scalars, next}
use Rattle.chunk.specs.WellFormed.{TextsUtf8}
use Rattle.chunk.specs.WellFormed as texts
use Rattle.chunk.proofs.texts.Decoded.{decoded}
use Rattle.chunk.proofs.Characters.{characters}
use Rattle.chunk.proofs.sentences.Said.{unbroken-scalar}

-- what holds of a Normal text's characters, written or counted, holds of the text
said_of : (p : List ℕ → List ℕ → Type 0) {t : List ℕ} → Octets t → ((cs : List ℕ) → Scalars cs → p (utf8_of cs) cs) → p t (chars t)
said_of p {t} o h =
    let x = characters.has t o in
    let e : chars t ≡ x.0 = ap chars (sym x.2) ∙ decoded x.0 x.1 in
    subst (λ (u : List ℕ). p t u) (sym e) (subst (λ (u : List ℕ). p u x.0) x.2 (h x.0 x.1))

-- ---- sizes

said-most : (f w : Bool) (cs : List ℕ) → Scalars cs → length (sentence_chars f w cs).text ≤ 3 * length (utf8_of cs)
unfolding sentence_chars utf8_of
said-most f w [] s = omega arith
said-most f w (c ∷ cs) (next e s) =
    let u = unbroken-scalar c e in
    let whole = length-append (octets c) (utf8_of cs) in
    by (is_line_end c && w) (omega (arith, casing.size f (unbroken c), u.1)) whole (said-most f w cs s) (said-most false v cs s)
  where
    v : Bool
    v = is_whitespace (unbroken c)

    one : List ℕ
    one = utf8_of (cased f (unbroken c))

    by : (x : Bool) {n : ℕ} → length one ≤ 3 * length (octets c) → n ≡ length (octets c) + length (utf8_of cs) →
        length (sentence_chars f w cs).text ≤ 3 * length (utf8_of cs) → length (sentence_chars false v cs).text ≤ 3 * length (utf8_of cs) →
        length (cond x (sentence_chars f w cs) (before one (sentence_chars false v cs))).text ≤ 3 * n
    by true h q p r = omega arith
    by false h q p r = omega (arith, length-append one (sentence_chars false v cs).text)

one-most : (f w : Bool) (k : Kind) {t : List ℕ} → Octets t → length (sentence_one f w k t).text ≤ 3 * length t + 2
one-most f w Normal {t} o = omega (arith, said_of (λ (t cs : List ℕ). length (sentence_chars f w cs).text ≤ 3 * length t) o (said-most f w))
one-most f w Verbatim o = omega arith
one-most f w Math {t} o = omega (arith, length-append t (0x24 ∷ []))

sentence-most : (t : List ℕ) (rs : List ChunkRow) (f w : Bool) → TextsUtf8 (map (chunk_of t) rs) →
    length (sentence_from f w (map (chunk_of t) rs)) ≤ most_of 3 rs
unfolding sentence_from most_of
sentence-most t [] f w h = omega arith
sentence-most t (r ∷ rs) f w (texts.next o h) =
    let c = chunk_of t r in
    let s = sentence_one f w c.kind c.text in
    sum (length-append s.text (sentence_from false s.white (map (chunk_of t) rs))) (one-most f w c.kind o)
    (part-size t r.from r.to) (sentence-most t rs false s.white h)
  where
    sum : {n a b c d m : ℕ} → n ≡ a + b → a ≤ 3 * c + 2 → c ≤ d → b ≤ m → n ≤ 3 * d + 2 + m
    sum p q r s = omega arith

pub surely-said : (t l : List ℕ) {room : ℕ} → TextsUtf8 (chunks_of t l) → leb (most_of 3 (chunk_rows l)) room ≡ true →
    length (format_sentence (chunks_of t l)) ≤ room
surely-said t l {room} h e = omega (arith, sentence-most t (chunk_rows l) true false h, leb-true (most_of 3 (chunk_rows l)) room e)

-- ---- UTF-8

scalars-octets : (cs : List ℕ) → every is_scalar cs ≡ true → Octets (utf8_of cs)
unfolding utf8_of every
scalars-octets [] e = octets.none
scalars-octets (c ∷ cs) e =
    let h = both_true (is_scalar c) (every is_scalar cs) e in shapes.octets-append (shapes.char-text c h.0) (scalars-octets cs h.1)

said-octets : (f w : Bool) (cs : List ℕ) → Scalars cs → Octets (sentence_chars f w cs).text
unfolding sentence_chars
said-octets f w [] s = octets.none
said-octets f w (c ∷ cs) (next e s) = by (is_line_end c && w) (said-octets f w cs s) (said-octets false v cs s)
  where
    v : Bool
    v = is_whitespace (unbroken c)

    one : List ℕ
    one = utf8_of (cased f (unbroken c))

    here : Octets one
    here = scalars-octets (cased f (unbroken c)) (casing.scalar f (unbroken c) (unbroken-scalar c e).0)

    by : (x : Bool) → Octets (sentence_chars f w cs).text → Octets (sentence_chars false v cs).text →
        Octets (cond x (sentence_chars f w cs) (before one (sentence_chars false v cs))).text
    by true p q = p
    by false p q = shapes.octets-append here q

one-octets : (f w : Bool) (k : Kind) {t : List ℕ} → Octets t → Octets (sentence_one f w k t).text
one-octets f w Normal o = said_of (λ (t cs : List ℕ). Octets (sentence_chars f w cs).text) o (said-octets f w)
one-octets f w Verbatim o = o
one-octets f w Math o =
    shapes.octets-append (shapes.ascii-text 0x24 (omega arith)) (shapes.octets-append o (shapes.ascii-text 0x24 (omega arith)))

pub sentence-octets : (f w : Bool) {cs : List Chunk} → TextsUtf8 cs → Octets (sentence_from f w cs)
unfolding sentence_from
sentence-octets f w texts.none = octets.none
sentence-octets f w (texts.next {c} o h) =
    shapes.octets-append (one-octets f w c.kind o) (sentence-octets false (sentence_one f w c.kind c.text).white h)
