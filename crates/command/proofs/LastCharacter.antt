-- Of a text that is UTF-8, the front and the last code are the text without its last character, and that character: `last-character`.
-- Assumes nothing.
use Rattle.std.proofs.Common.{ℕ, ◌<◌, arith, ◌≡◌, sym, ap, ap₂, subst, ◌∙◌, true, List, [], ◌∷◌, ◌++◌, append_assoc, append-nil, length, take}
use lib.Seq.{take-append_seam}
use Rattle.text.specs.Utf8.{is_scalar, octets, Octets, none, next, value}
use Rattle.text.proofs.Rfc3629.{rfc3629}
use Rattle.chunk.specs.Format.{last_from, last_code}
use Rattle.chunk.proofs.Characters.{characters}
use Rattle.command.specs.Execute.{front}
use Rattle.command.specs.LastCharacter.{LastCharacter}

found : (u : List ℕ) (c : ℕ) → is_scalar c ≡ true → (front (u ++ octets c) ≡ u) × (last_code (u ++ octets c) ≡ c)
found u c e =
    let l = characters.last u c e in
    (ap (λ (n : ℕ). take n (u ++ octets c)) l.0 ∙ take-append_seam u (octets c), l.1)

-- a text that is made of another and a character behind it
record Ends (t : List ℕ) : Type 0 where
  u : List ℕ
  c : ℕ
  text : Octets u
  scalar : is_scalar c ≡ true
  whole : u ++ octets c ≡ t

-- every text that is not empty is made so
ends : {t : List ℕ} → Octets t → 0 < length t → Ends t
ends none h = absurd (omega arith)
ends (next w {s} e o) h = by s o (λ p. ends o p)
  where
    by : (s : List ℕ) → Octets s → (0 < length s → Ends s) → Ends (w ++ s)
    by [] o k =
        let v = rfc3629.encodes w e in
        record { u = []; c = value w; text = none; scalar = v.0; whole = v.1 ∙ sym (append-nil w) }
    by (b ∷ s) o k =
        let x = k (omega arith) in
        record {
          u = w ++ x.u;
          c = x.c;
          text = next w e x.text;
          scalar = x.scalar;
          whole = append_assoc w x.u (octets x.c) ∙ ap (λ (v : List ℕ). w ++ v) x.whole;
        }

module _ (t : List ℕ) (x : Ends t) where
  front-is : front t ≡ x.u
  front-is = ap front (sym x.whole) ∙ (found x.u x.c x.scalar).0

  code_is : last_code t ≡ x.c
  code_is = ap last_code (sym x.whole) ∙ (found x.u x.c x.scalar).1

front-text : (t : List ℕ) → Octets t → Octets (front t)
unfolding last_from
front-text [] o = o
front-text (b ∷ t) o =
    let x = ends o (omega arith) in
    subst Octets (sym (front-is (b ∷ t) x)) x.text

pub last-character : LastCharacter
last-character = record {
  whole = λ t o h. let x = ends o h in ap₂ (λ (u : List ℕ) (c : ℕ). u ++ octets c) (front-is t x) (code_is t x) ∙ x.whole;
  text = front-text;
  scalar = λ t o h. let x = ends o h in ap is_scalar (code_is t x) ∙ x.scalar;
  found = found;
}
