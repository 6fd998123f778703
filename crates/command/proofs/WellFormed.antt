-- What a command writes is UTF-8, and short: `well-formed`.
-- Assumes nothing.
use Rattle.std.proofs.Common.{ℕ, suc, ◌+◌, ◌≤◌, ◌<◌, arith, ◌≡◌, refl, Bool, true, false, cond, List, [], ◌∷◌, ◌++◌, length, length-append, length-take-le, eqb}
use Rattle.std.specs.Prelude.{Option, Some, None}
use borrow.Author.Tests.{eqb-false}
use Rattle.text.specs.Range.{within}
use Rattle.text.specs.Utf8.{tail, is_scalar, octets, Octets, none}
use Rattle.text.proofs.Shapes.{shapes}
use Rattle.chunk.specs.Format.{last_from, last_at, last_code}
use Rattle.compose.specs.Lookup.{lookup}
use Rattle.compose.specs.Composites.{composites}
use Rattle.command.specs.declared.meaning.Meaning.{Meaning}
use Rattle.command.specs.declared.meaning.Meaning.TheVariants.{Itself, Letter, Accent, Slash, Copyright, Hyphenation, Unknown}
use Rattle.command.specs.Commands.{meaning_of}
use Rattle.command.specs.Execute.{Argument, absent, given, text_of, Sane, front, dotted, with_dot, with_mark, bare, last_char_combine, executed}
use Rattle.command.specs.Execute.{execute_command}
use Rattle.command.specs.WellFormed.{WellFormed}
use Rattle.command.proofs.stacks.LaysLaws.{octets-few, octets-one, octets-two, octets-three}
use Rattle.command.proofs.ways.LastCharacterWays.{composed-fine, dotted-fine, bare-fine}
use Rattle.command.proofs.ways.ExecuteWays.{meaning-sane}
use Rattle.command.proofs.LastCharacter.{last-character}

-- ---- the last character of a text

-- the place that is found lies below n where the best so far does, and every place of the text
last-below : (t : List ℕ) (best i n : ℕ) → best < n → i + length t ≤ n → last_from best i t < n
unfolding last_from
last-below [] best i n h l = h
last-below (b ∷ t) best i n h l = last-below t (cond (within tail b) best i) (suc i) n (by (within tail b)) (omega arith)
  where
    by : (w : Bool) → cond w best i < n
    by true = h
    by false = omega arith

-- the text before the last character is at least an octet shorter
front-short : (b : ℕ) (t : List ℕ) → length (front (b ∷ t)) ≤ length t
front-short b t =
    let l = last-below (b ∷ t) 0 0 (length (b ∷ t)) (omega arith) (omega arith) in
    omega (arith, length-take-le (last_at (b ∷ t)) (b ∷ t) (omega (arith, l)), l)

-- ---- a mark on the last character

dot-text : (t : List ℕ) (c : ℕ) → Octets t → Octets (with_dot t c)
dot-text t c o = by (eqb (dotted c) c) refl
  where
    by : (w : Bool) → eqb (dotted c) c ≡ w → Octets (cond w t (front t ++ octets (dotted c)))
    by true e = o
    by false e = shapes.octets-append (last-character.text t o) (shapes.char-text (dotted c) (dotted-fine c (eqb-false (dotted c) c e)).0)

mark-text : (t : List ℕ) (c m : ℕ) (r : Option ℕ) → lookup composites (dotted c) m ≡ r → Octets t → is_scalar m ≡ true → Octets (with_mark t c m r)
mark-text t c m (Some x) e o s = shapes.octets-append (last-character.text t o) (shapes.char-text x (composed-fine (dotted c) m x e).0)
mark-text t c m None e o s = shapes.octets-append (dot-text t c o) (shapes.char-text m s)

combine-text : (arg : Argument) (m : ℕ) → Octets (text_of arg) → is_scalar m ≡ true → m ≤ 0x7FF → Octets (last_char_combine arg m)
combine-text absent m o s l = shapes.char-text m s
combine-text (given []) m o s l = shapes.char-text (bare m) (bare-fine m s l).0
combine-text (given (b ∷ t)) m o s l = mark-text (b ∷ t) _ m (lookup composites (dotted (last_code (b ∷ t))) m) refl o s

-- ---- what is written

unknown-text : (name : List ℕ) → Octets name → {t : List ℕ} → Octets t → Octets (0x5C ∷ name ++ t)
unknown-text name n o = shapes.octets-append (shapes.ascii-text 0x5C (omega arith)) (shapes.octets-append n o)

executed-text : (name : List ℕ) (arg : Argument) (k : Meaning) → Sane k → Octets name → Octets (text_of arg) → Octets (executed name arg k)
unfolding is_scalar
executed-text name arg Itself h n o = n
executed-text name arg (Letter c) h n o = shapes.char-text c h.0
executed-text name arg (Accent m) h n o = combine-text arg m o h.0 h.1
executed-text name absent Slash h n o = shapes.char-text 0xF8 refl
executed-text name (given t) Slash h n o = combine-text (given t) 0x338 o refl (omega arith)
executed-text name arg Copyright h n o = shapes.octets-append (shapes.char-text 0xA9 refl) o
executed-text name arg Hyphenation h n o = none
executed-text name absent Unknown h n o = unknown-text name n (shapes.ascii-text 0x20 (omega arith))
executed-text name (given t) Unknown h n o =
    shapes.octets-append (unknown-text name n (shapes.octets-append (shapes.ascii-text 0x7B (omega arith)) o)) (shapes.ascii-text 0x7D (omega arith))

-- ---- how long it is

dot-short : (b : ℕ) (t : List ℕ) (c : ℕ) → length (with_dot (b ∷ t) c) ≤ length (b ∷ t)
dot-short b t c = by (eqb (dotted c) c) refl
  where
    by : (w : Bool) → eqb (dotted c) c ≡ w → length (cond w (b ∷ t) (front (b ∷ t) ++ octets (dotted c))) ≤ length (b ∷ t)
    by true e = omega arith
    by false e =
        let one = octets-one (dotted c) (dotted-fine c (eqb-false (dotted c) c e)).1 in
        omega (arith, length-append (front (b ∷ t)) (octets (dotted c)), front-short b t, one)

mark-short : (b : ℕ) (t : List ℕ) (c m : ℕ) (r : Option ℕ) → m ≤ 0x7FF → length (with_mark (b ∷ t) c m r) ≤ length (b ∷ t) + 3
mark-short b t c m (Some x) l = omega (arith, length-append (front (b ∷ t)) (octets x), front-short b t, octets-few x)
mark-short b t c m None l = omega (arith, length-append (with_dot (b ∷ t) c) (octets m), dot-short b t c, octets-two m l)

combine-short : (arg : Argument) (m : ℕ) → is_scalar m ≡ true → m ≤ 0x7FF → length (last_char_combine arg m) ≤ length (text_of arg) + 3
combine-short absent m s l = omega (arith, octets-two m l)
combine-short (given []) m s l = omega (arith, octets-two (bare m) (bare-fine m s l).1)
combine-short (given (b ∷ t)) m s l = mark-short b t _ m (lookup composites (dotted (last_code (b ∷ t))) m) l

executed-short : (name : List ℕ) (arg : Argument) (k : Meaning) → Sane k → length (executed name arg k) ≤ length name + length (text_of arg) + 3
unfolding is_scalar
executed-short name arg Itself h = omega arith
executed-short name arg (Letter c) h = omega (arith, octets-three c h.1)
executed-short name arg (Accent m) h = omega (arith, combine-short arg m h.0 h.1)
executed-short name absent Slash h = omega (arith, octets-two 0xF8 (omega arith))
executed-short name (given t) Slash h = omega (arith, combine-short (given t) 0x338 refl (omega arith))
executed-short name arg Copyright h = omega (arith, length-append (octets 0xA9) (text_of arg), octets-two 0xA9 (omega arith))
executed-short name arg Hyphenation h = omega arith
executed-short name absent Unknown h = omega (arith, length-append name (0x20 ∷ []))
executed-short name (given t) Unknown h = omega (arith, length-append (0x5C ∷ name ++ 0x7B ∷ t) (0x7D ∷ []), length-append name (0x7B ∷ t))

pub well-formed : WellFormed
unfolding execute_command
well-formed = record {
  text = λ name arg n o. executed-text name arg (meaning_of name) (meaning-sane name) n o;
  short = λ name arg. executed-short name arg (meaning_of name) (meaning-sane name);
}
