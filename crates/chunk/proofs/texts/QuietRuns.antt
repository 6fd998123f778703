-- Runs of characters that are no line ends, and that lowering changes by ASCII's rule alone.
--     quiet-ascii, quiet-wide     such a character: of ASCII, and beyond
--     quiet-clear, quiet-more     such a run: a stretch of ASCII, and one character more
--     quiet_line, high-low        such a character is no line end; octets beyond ASCII are not lowered
-- Assumes nothing.
use Rattle.std.proofs.Common.{ℕ, ◌+◌, ◌-◌, ◌≤◌, ◌<◌, arith, ◌≡◌, refl, sym, ap, ap₂, subst, ◌∙◌, Bool, true, false, cond}
use Rattle.std.proofs.Common.{◌&&◌, ◌||◌, List, [], ◌∷◌, ◌++◌, map, append_assoc, append-nil, length, get_or, take, drop, eqb, leb, length-take-le, take_at, lt-ltb}
use Rattle.std.specs.Prelude.{Some}
use borrow.Author.Tests.{lt-leb, eqb-false}
use Rattle.text.specs.Block.{breaks, Clear}
use Rattle.text.specs.Every.{every}
use Rattle.text.specs.Utf8.{width, value, is_scalar, octets, utf8_of}
use Rattle.text.specs.Scan.{part, code, rest, see}
use Rattle.text.proofs.general.Tests.{both_true}
use Rattle.text.proofs.general.Parts.{part_none, part-head, part_join, part-drop, length_part}
use Rattle.text.proofs.Shapes.{shapes}
use Rattle.text.proofs.Rfc3629.{rfc3629}
use Rattle.text.proofs.Seeing.{seeing}
use Rattle.casing.specs.Casing.{ascii_cased, is_settled}
use Rattle.casing.proofs.Casing.{casing}
use Rattle.chunk.specs.Format.{is_line_end}
use Rattle.chunk.specs.Inner.{is_plain, is_quiet, QuietChar, QuietRun}
use Rattle.chunk.specs.Characters.{Scalars, none, next}
use Rattle.chunk.proofs.texts.Decoded.{plain-octet, plain-text, ascii-octets, ascii-scalar}
use Rattle.chunk.proofs.texts.PlainRuns.{every-snoc, plain-clear}
use Rattle.chunk.proofs.texts.PassedSequences.{High, end, on, high-line}

-- ---- a character

pub quiet-ascii : (t : List ℕ) (i : ℕ) → i < length t → get_or t i 0 < 0x80 → is_line_end (get_or t i 0) ≡ false → QuietChar t i (i + 1)
quiet-ascii t i l h e =
    (get_or t i 0, ascii-scalar (get_or t i 0) h, ascii-octets (get_or t i 0) h ∙ sym one, rw (lt-ltb (get_or t i 0) 0x80 h, e) refl)
  where
    one : part t i (i + 1) ≡ get_or t i 0 ∷ []
    one = part-head t i (i + 1) (omega arith) (omega arith) ∙ ap (λ (u : List ℕ). get_or t i 0 ∷ u) (part_none t (i + 1))

-- the character that a text begins with, where it is not U+FFFD, has the octets that it is read from
seen-octets : (u : List ℕ) → code u < 0xFFFD → (is_scalar (code u) ≡ true) × (octets (code u) ≡ take (1 + rest u) u)
unfolding code rest
seen-octets u h = by (eqb (width u) 0) refl h
  where
    by : (x : Bool) → eqb (width u) 0 ≡ x → cond x 0xFFFD (value (take (width u) u)) < 0xFFFD →
        (is_scalar (cond x 0xFFFD (value (take (width u) u))) ≡ true) × (octets (cond x 0xFFFD (value (take (width u) u))) ≡ take (1 + (width u - 1)) u)
    by true p k = absurd (omega arith)
    by false p k =
        let some : 0 < width u = omega (arith, eqb-false (width u) 0 p) in
        let c = rfc3629.encodes (take (width u) u) (shapes.width-char u some).0 in
        (c.0, c.1 ∙ ap (λ (n : ℕ). take n u) (back some))
      where
        back : 0 < width u → width u ≡ 1 + (width u - 1)
        back h = omega arith

pub quiet-wide : (t : List ℕ) (i e : ℕ) {c n : ℕ} → i < e → e ≤ length t → see (take e t) i ≡ Some (c, n) → is_settled c ≡ true → QuietChar t i n
quiet-wide t i e {c} {n} h l q s =
    let u = part t i e in
    let cut : u ≡ drop i (take e t) = part-drop t i e l in
    let p = seeing.char-parts (take e t) i c n q in
    let inside = seeing.see-ahead (take e t) i c n q in
    let far : n ≤ e = omega (arith, inside.1, length-take-le e t l) in
    let same : c ≡ code u = p.1 ∙ ap code (sym cut) in
    let read = seen-octets u (subst (λ (d : ℕ). d < 0xFFFD) same (casing.beyond c s).1) in
    let size : length (part t i n) ≡ 1 + rest u =
    omega (arith, length_part t i n (omega (arith, inside.0)) (omega (arith, far, l)), p.2 ∙ ap (λ (v : List ℕ). i + 1 + rest v) (sym cut)) in
    let joined = part_join t i n e (omega (arith, inside.0)) far l in (
      c,
      ap is_scalar same ∙ read.0,
      ap octets same ∙ read.1 ∙ ap (take (1 + rest u)) joined ∙ take_at (part t i n) (part t n e) (1 + rest u) size,
      by (is_plain c) s,
    )
  where
    by : (x : Bool) {y : Bool} → y ≡ true → (x || y) ≡ true
    by true e = refl
    by false e = e

-- ---- a run

utf8-snoc : (cs : List ℕ) (c : ℕ) → utf8_of (cs ++ c ∷ []) ≡ utf8_of cs ++ octets c
unfolding utf8_of
utf8-snoc [] c = append-nil (octets c)
utf8-snoc (d ∷ cs) c = ap (λ (u : List ℕ). octets d ++ u) (utf8-snoc cs c) ∙ sym (append_assoc (octets d) (utf8_of cs) (octets c))

scalars-snoc : {cs : List ℕ} (c : ℕ) → Scalars cs → is_scalar c ≡ true → Scalars (cs ++ c ∷ [])
scalars-snoc c none e = next e none
scalars-snoc c (next d s) e = next d (scalars-snoc c s e)

pub quiet-more : (t : List ℕ) {a i r : ℕ} → a ≤ i → i ≤ r → r ≤ length t → QuietRun t a i → QuietChar t i r → QuietRun t a r
quiet-more t {a} {i} {r} h m l g c = (
  g.0 ++ c.0 ∷ [],
  scalars-snoc c.0 g.1 c.1,
  utf8-snoc g.0 c.0 ∙ ap₂ ◌++◌ g.2 c.2 ∙ sym (part_join t a i r h m l),
  every-snoc is_quiet g.0 c.0 g.3 c.3,
)

plain_quiet : (u : List ℕ) → every is_plain u ≡ true → every is_quiet u ≡ true
unfolding every
plain_quiet [] e = refl
plain_quiet (b ∷ u) e = let x = both_true (is_plain b) (every is_plain u) e in rw x.0 (plain_quiet u x.1)

pub quiet-clear : (t : List ℕ) (a e : ℕ) {r : ℕ} → a ≤ e → e ≤ length t → Clear breaks (take e t) a r → QuietRun t a r × (a ≤ r) × (r ≤ e)
quiet-clear t a e {r} h l x =
    let p = plain-clear t a e h l x in
    let s = plain-text (part t a r) p.2 in
    ((part t a r, s.0, s.1, plain_quiet (part t a r) p.2), p.0, p.1)

-- ---- lowered

pub quiet_line : (c : ℕ) → is_quiet c ≡ true → is_line_end c ≡ false
quiet_line c e = by (is_plain c) refl e
  where
    by : (x : Bool) → is_plain c ≡ x → (x || is_settled c) ≡ true → is_line_end c ≡ false
    by true p q = (plain-octet c p).1
    by false p q = high-line c (casing.beyond c q).0

-- octets beyond ASCII stay as they are
pub high-low : {w : List ℕ} → High w → map (ascii_cased false) w ≡ w
high-low end = refl
high-low (on {b} h k) = ap₂ ◌∷◌ (rw (lt-leb b 0x5A (omega arith)) (by (leb 0x41 b))) (high-low k)
  where
    by : (x : Bool) → cond (x && false) (b + 0x20) b ≡ b
    by true = refl
    by false = refl
