-- The definitions, which go by octets, go through a text as chunk.rs goes through its characters: `characters`.
-- Assumes nothing.
use Rattle.std.proofs.Common.{ℕ, ◌≤◌, ◌<◌, arith, ◌≡◌, refl, sym, ap, ap₂, ◌∙◌, Bool, true}
use Rattle.std.proofs.Common.{false, cond, List, [], ◌∷◌, ◌++◌, append_assoc, append-nil, length, drop, length-append, leb, leb-false}
use lib.Seq.{drop-append_seam}
use Rattle.text.specs.Utf8.{is_char, Octets, none, next, value, is_scalar, octets, utf8_of}
use Rattle.text.specs.Class.{white_space, is_whitespace}
use Rattle.text.specs.Scan.{code}
use Rattle.text.proofs.Shapes.{shapes}
use Rattle.text.proofs.Rfc3629.{rfc3629}
use Rattle.chunk.specs.Format.{last_code, ends_white, Written, written, before, is_line_end, white, lines, is_escapable, escaped}
use Rattle.chunk.specs.Characters.{Scalars, char_lines, char_ends_white, char_escaped, Characters}
use Rattle.chunk.specs.Inner.{plain}
use Rattle.chunk.specs.Characters as chars
use Rattle.chunk.proofs.texts.Decoded.{decoded}
use Rattle.chunk.proofs.texts.LastCharacter.{last-char}
use Rattle.chunk.proofs.texts.LineEnds.{run}
use Rattle.chunk.proofs.texts.Escapes.{escape-some, escaped-append}
use Rattle.chunk.proofs.texts.PassedSequences.{High, high-line, high-escape, high-plain, high-escaped, code-high, differ}

-- ---- the last character

code-last : (u w : List ℕ) → is_char w ≡ true → last_code (u ++ w) ≡ value w
code-last u w e =
    ap (λ (n : ℕ). code (drop n (u ++ w))) (last-char u w e) ∙ ap code (drop-append_seam u w ∙ sym (append-nil w)) ∙ shapes.code-char w [] e

ends_char : (u w : List ℕ) → is_char w ≡ true → ends_white (u ++ w) ≡ is_whitespace (value w)
ends_char u w e = by (u ++ w) (omega (arith, length-append u w, (shapes.char-some w e).0)) (code-last u w e)
  where
    by : (t : List ℕ) → 0 < length t → last_code t ≡ value w → ends_white t ≡ is_whitespace (value w)
    by [] h q = absurd (omega arith)
    by (b ∷ t) h q = ap is_whitespace q

last_code_lem : (u : List ℕ) (c : ℕ) → is_scalar c ≡ true → last_code (u ++ octets c) ≡ c
last_code_lem u c e = code-last u (octets c) (rfc3629.writes c e) ∙ shapes.reads c e

ends-code : (u : List ℕ) (c : ℕ) → is_scalar c ≡ true → ends_white (u ++ octets c) ≡ is_whitespace c
ends-code u c e = ends_char u (octets c) (rfc3629.writes c e) ∙ ap is_whitespace (shapes.reads c e)

white-code : (w : Bool) (u : List ℕ) (c : ℕ) → is_scalar c ≡ true → white w (u ++ octets c) ≡ is_whitespace c
white-code w u c e =
    by (u ++ octets c) (omega (arith, length-append u (octets c), (shapes.char-some (octets c) (rfc3629.writes c e)).0)) ∙ ends-code u c e
  where
    by : (t : List ℕ) → 0 < length t → white w t ≡ ends_white t
    by [] h = absurd (omega arith)
    by (b ∷ t) h = refl

-- the last character decides whether white space comes last, whatever octets stand before
ended-behind : (cs u : List ℕ) (c : ℕ) → Scalars (c ∷ cs) → ends_white (u ++ utf8_of (c ∷ cs)) ≡ char_ends_white (c ∷ cs)
unfolding utf8_of char_ends_white
ended-behind [] u c (chars.next e s) = ap (λ (t : List ℕ). ends_white (u ++ t)) (append-nil (octets c)) ∙ ends-code u c e
ended-behind (d ∷ cs) u c (chars.next e s) =
    ap ends_white (sym (append_assoc u (octets c) (utf8_of (d ∷ cs)))) ∙ ended-behind cs (u ++ octets c) d s

ended : (cs : List ℕ) → Scalars cs → ends_white (utf8_of cs) ≡ char_ends_white cs
unfolding utf8_of char_ends_white
ended [] s = refl
ended (c ∷ cs) s = ended-behind cs [] c s

-- ---- a character's octets

-- the octets of a character are the character itself, one octet of ASCII; or none of them is ASCII
data Coded (c : ℕ) : Type 0 where
  alone : octets c ≡ c ∷ [] → Coded c
  above : 0x80 ≤ c → High (octets c) → Coded c

coded : (c : ℕ) → is_scalar c ≡ true → Coded c
unfolding octets
coded c e = by (leb c 0x7F) refl
  where
    by : (x : Bool) → leb c 0x7F ≡ x → Coded c
    by true p = alone (rw p)
    by false p = above (leb-false c 0x7F p) (code-high c e (leb-false c 0x7F p))

module _ (c : ℕ) (e : is_scalar c ≡ true) where
  line_code : is_line_end c ≡ true → octets c ≡ c ∷ []
  line_code p = by (coded c e)
    where
      by : Coded c → octets c ≡ c ∷ []
      by (alone q) = q
      by (above h k) = absurd (differ (sym p ∙ high-line c h))

  plain_code : is_line_end c ≡ false → plain (octets c) ≡ true
  unfolding plain
  plain_code p = by (coded c e)
    where
      by : Coded c → plain (octets c) ≡ true
      by (alone q) = ap plain q ∙ rw p refl
      by (above h k) = high-plain k

  escape-code : (verb : Bool) → is_escapable c verb false ≡ true → octets c ≡ c ∷ []
  escape-code verb p = by (coded c e)
    where
      by : Coded c → octets c ≡ c ∷ []
      by (alone q) = q
      by (above h k) = absurd (differ (sym p ∙ high-escape verb c h))

  keep-code : (verb : Bool) → is_escapable c verb false ≡ false → escaped verb (octets c) ≡ octets c
  unfolding escaped
  keep-code verb p = by (coded c e)
    where
      by : Coded c → escaped verb (octets c) ≡ octets c
      by (alone q) = ap (escaped verb) q ∙ rw p (sym q)
      by (above h k) = high-escaped verb k

-- ---- Normal texts

-- what is written in characters, as octets
abbrev in_octets : Written → Written
in_octets x = written (utf8_of x.text) x.white

-- the lines of a text are those of its characters, whatever stood before it
abbrev LinesOf : List ℕ → Type 0
LinesOf cs = (w : Bool) (u : List ℕ) → lines w u (utf8_of cs) ≡ in_octets (char_lines (white w u) cs)

module _ (c : ℕ) (cs : List ℕ) (e : is_scalar c ≡ true) (ih : LinesOf cs) (w : Bool) (u : List ℕ) where
  line-turn : is_line_end c ≡ true → lines w u (octets c ++ utf8_of cs) ≡ in_octets (char_lines (white w u) (c ∷ cs))
  unfolding lines char_lines utf8_of octets is_whitespace white_space
  line-turn p = ap (λ (v : List ℕ). lines w u (v ++ utf8_of cs)) (line_code c e p) ∙ rw p (by (white w u))
    where
      by : (v : Bool) →
          cond v (lines true [] (utf8_of cs)) (before (0x20 ∷ []) (lines true [] (utf8_of cs)))
          ≡ in_octets (cond v (char_lines v cs) (before (0x20 ∷ []) (char_lines (is_whitespace 0x20) cs)))
      by true = ih true []
      by false = ap (before (0x20 ∷ [])) (ih true [])

  char-turn : is_line_end c ≡ false → lines w u (octets c ++ utf8_of cs) ≡ in_octets (char_lines (white w u) (c ∷ cs))
  unfolding char_lines utf8_of
  char-turn p =
      run w u (octets c) (utf8_of cs) (plain_code c e p)
      ∙ ap (before (octets c)) (ih w (u ++ octets c) ∙ ap (λ (v : Bool). in_octets (char_lines v cs)) (white-code w u c e))
      ∙ rw p refl

lined_on : (cs : List ℕ) → Scalars cs → LinesOf cs
unfolding lines char_lines utf8_of
lined_on [] s w u = refl
lined_on (c ∷ cs) (chars.next e s) w u = by (is_line_end c) refl (lined_on cs s)
  where
    by : (x : Bool) → is_line_end c ≡ x → LinesOf cs → lines w u (octets c ++ utf8_of cs) ≡ in_octets (char_lines (white w u) (c ∷ cs))
    by true p ih = line-turn c cs e ih w u p
    by false p ih = char-turn c cs e ih w u p

-- ---- escapes

escape-turn : (verb : Bool) (c : ℕ) (cs : List ℕ) → is_scalar c ≡ true → (x : Bool) → is_escapable c verb false ≡ x →
    escaped verb (utf8_of cs) ≡ utf8_of (char_escaped verb cs) →
    escaped verb (octets c) ++ escaped verb (utf8_of cs) ≡ utf8_of (cond x (0x5C ∷ c ∷ char_escaped verb cs) (c ∷ char_escaped verb cs))
unfolding utf8_of octets
escape-turn verb c cs e true p ih =
    ap₂ ◌++◌ (ap (escaped verb) (escape-code c e verb p) ∙ sym (escape-some verb c p)) ih
    ∙ ap (λ (v : List ℕ). 0x5C ∷ (v ++ utf8_of (char_escaped verb cs))) (sym (escape-code c e verb p))
escape-turn verb c cs e false p ih = ap₂ ◌++◌ (keep-code c e verb p) ih

escapes-all : (verb : Bool) (cs : List ℕ) → Scalars cs → escaped verb (utf8_of cs) ≡ utf8_of (char_escaped verb cs)
unfolding utf8_of char_escaped escaped
escapes-all verb [] s = refl
escapes-all verb (c ∷ cs) (chars.next e s) =
    escaped-append verb (octets c) (utf8_of cs) ∙ escape-turn verb c cs e (is_escapable c verb false) refl (escapes-all verb cs s)

-- ---- every text that is UTF-8 has characters

has-chars : {t : List ℕ} → Octets t → (cs : List ℕ) × Scalars cs × (utf8_of cs ≡ t)
unfolding utf8_of
has-chars none = ([], chars.none, refl)
has-chars (next w {s} e o) =
    let h = has-chars o in
    let c = rfc3629.encodes w e in
    (value w ∷ h.0, chars.next c.0 h.1, ap₂ ◌++◌ c.1 h.2)

pub characters : Characters
characters = record {
  has = λ t o. has-chars o;
  decoded = decoded;
  lined = λ w cs s. lined_on cs s w [];
  ended = ended;
  escapes = escapes-all;
  last = λ u c e. (last-char u (octets c) (rfc3629.writes c e), last_code_lem u c e);
}
