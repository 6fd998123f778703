-- A mark put onto the last character of an argument: for `last_char_combine`.
--     composed-fine, dotted-fine, bare-fine      the characters that are written are scalar values of few octets
--     empty, composes, behind, dots              the four ways through `last_char_combine`
--     char-room, bare-room, dot-room             there is room for these characters
-- Assumes nothing.
use Rattle.std.proofs.Common.{ℕ, zero, suc, ◌+◌, ◌-◌, ◌≤◌, ◌<◌, arith, ◌≡◌, refl, sym, ap, ap₂, subst, ◌∙◌, Bool, true, false}
use Rattle.std.proofs.Common.{cond, ◌&&◌, ◌||◌, List, [], ◌∷◌, ◌++◌, append_assoc, length, take, length-append, take_all, length-take-le, eqb, leb, eq-eqb, ne_eqb, leb-true}
use Rattle.std.specs.Prelude.{Option, Some, None}
use Rattle.text.specs.Utf8.{is_scalar, octets, width, value, gather}
use Rattle.text.specs.Scan.{part, code}
use Rattle.compose.specs.Lookup.{Composite, numbers, lookup}
use Rattle.compose.specs.Composites.{composites}
use Rattle.compose.specs.Halving.{halved}
use Rattle.compose.proofs.Composition.{composition}
use Rattle.text.proofs.general.Tests.{both_true}
use Rattle.command.specs.Stack.{Lays}
use Rattle.chunk.specs.Format.{last_at, last_code}
use Rattle.text.proofs.general.Parts.{length_part, drop-part}
use Rattle.text.specs.Every.{every}
use Rattle.chunk.proofs.texts.LastCharacter.{last_less}
use Rattle.command.specs.Execute.{front, dotted, bare, marked, with_mark, last_char_combine, given}
use Rattle.command.proofs.stacks.MoreParts.{take_part}
use Rattle.command.proofs.stacks.LaysLaws.{lays-as, lays-on, octets-few, octets-one, octets-two, octets-three}

-- ---- the characters that are written

-- a row of the composition table: the composed character is a scalar value, and has at most three octets unless its letter has four
abbrev fine : Composite → Bool
fine r = is_scalar r.char && (leb r.char 0xFFFF || leb 0x10000 r.letter)

all-fine : every fine composites ≡ true
unfolding every composites is_scalar
all-fine = refl

pub composed-fine : (l m x : ℕ) → lookup composites l m ≡ Some x → (is_scalar x ≡ true) × ((leb x 0xFFFF || leb 0x10000 l) ≡ true)
composed-fine l m x e = both_true (is_scalar x) (leb x 0xFFFF || leb 0x10000 l) (composition.each fine all-fine l m x e)

pub dotted-fine : (c : ℕ) → (dotted c ≡ c → ⊥) → (is_scalar (dotted c) ≡ true) × (dotted c ≤ 0x7F)
unfolding dotted is_scalar
dotted-fine c = by (eqb c 0x131) (eqb c 0x237)
  where
    by : (p q : Bool) → (cond p 0x69 (cond q 0x6A c) ≡ c → ⊥)
        → (is_scalar (cond p 0x69 (cond q 0x6A c)) ≡ true) × (cond p 0x69 (cond q 0x6A c) ≤ 0x7F)
    by true q h = (refl, omega arith)
    by false true h = (refl, omega arith)
    by false false h = absurd (h refl)

pub bare-fine : (m : ℕ) → is_scalar m ≡ true → m ≤ 0x7FF → (is_scalar (bare m) ≡ true) × (bare m ≤ 0x7FF)
unfolding bare is_scalar
bare-fine m s l = by (eqb m 0x302) (eqb m 0x303)
  where
    by : (p q : Bool) → (is_scalar (cond p 0x5E (cond q 0x7E m)) ≡ true) × (cond p 0x5E (cond q 0x7E m) ≤ 0x7FF)
    by true q = (refl, omega arith)
    by false true = (refl, omega arith)
    by false false = (s, l)

-- ---- what is written: the argument t stands from a to e in o, and m is the mark

module _ (o : List ℕ) (a e : ℕ) (ae : a ≤ e) (eo : e ≤ length o) where
  abbrev t : List ℕ
  t = part o a e

  t-length : length t ≡ e - a
  t-length = length_part o a e ae eo

  -- what is written from a + k on keeps the first k octets of the argument
  edit : (k : ℕ) (w : List ℕ) (r : ℕ) (o' : List ℕ) → k ≤ length t → Lays (a + k) w o r o' → Lays a (take k t ++ w) o r o'
  edit k w r o' h l = record {
    end = sum r a k (length w) (length (take k t)) (length (take k t ++ w)) l.end (length-append (take k t) w) (length-take-le k t h);
    text = l.text ∙ ap (λ (u : List ℕ). u ++ w) (take_part o a e k (omega (arith, h, t-length)) ae eo) ∙ append_assoc (take a o) (take k t) w;
  }
    where
      sum : (r a k w n s : ℕ) → r ≡ a + k + w → s ≡ n + w → n ≡ k → r ≡ a + s
      sum r a k w n s p q u = omega arith

  module _ (m : ℕ) where
    pub empty : (r : ℕ) (o' : List ℕ) → e ≤ a → Lays a (octets (bare m)) o r o' → Lays a (last_char_combine (given t) m) o r o'
    empty r o' h l = by t (omega (arith, t-length, h)) l
      where
        by : (t : List ℕ) → length t ≡ 0 → Lays a (octets (bare m)) o r o' → Lays a (last_char_combine (given t) m) o r o'
        by [] q l = l
        by (b ∷ t) q l = absurd (omega arith)

    module _ (h : a < e) where
      some : 0 < length t
      some = omega (arith, h, t-length)

      combined : last_char_combine (given t) m ≡ marked t m
      combined = by t some
        where
          by : (t : List ℕ) → 0 < length t → last_char_combine (given t) m ≡ marked t m
          by [] q = absurd (omega arith)
          by (b ∷ t) q = refl

      last-inside : last_at t ≤ length t
      last-inside = omega (arith, last_less o a e (a + last_at t) h eo refl, t-length)

      -- c is the last character, which stands at `at`
      module _ (at c : ℕ) (p : at ≡ a + last_at t) (q : c ≡ code (part o at e)) where
        is_last : c ≡ last_code t
        is_last = q ∙ ap (λ (n : ℕ). code (part o n e)) p ∙ sym (ap code (drop-part o a e (last_at t)))

        to-c : marked t m ≡ with_mark t c m (lookup composites (dotted c) m)
        to-c = ap (λ (c : ℕ). with_mark t c m (lookup composites (dotted c) m)) (sym is_last)

        at_last : (w : List ℕ) (r : ℕ) (o' : List ℕ) → Lays at w o r o' → Lays a (front t ++ w) o r o'
        at_last w r o' l = edit (last_at t) w r o' last-inside (subst (λ (n : ℕ). Lays n w o r o') p l)

        -- the character and the mark compose
        pub composes : (x r : ℕ) (o' : List ℕ) → lookup composites (dotted c) m ≡ Some x → Lays at (octets x) o r o'
            → Lays a (last_char_combine (given t) m) o r o'
        composes x r o' f l =
            lays-as a (front t ++ octets x) _ o r o' (sym (combined ∙ to-c ∙ ap (with_mark t c m) f)) (at_last (octets x) r o' l)

        -- they do not compose, and the character is no dotless letter
        pub behind : (r : ℕ) (o' : List ℕ) → lookup composites (dotted c) m ≡ None → dotted c ≡ c → Lays e (octets m) o r o'
            → Lays a (last_char_combine (given t) m) o r o'
        behind r o' f g l =
            lays-as a (take (e - a) t ++ octets m) _ o r o'
            (ap (λ (u : List ℕ). u ++ octets m) (all (e - a) t t-length)
            ∙ sym (combined ∙ to-c ∙ ap (with_mark t c m) f ∙ rw (eq-eqb (dotted c) c g) refl))
            (edit (e - a) (octets m) r o' (omega (arith, t-length)) (subst (λ (n : ℕ). Lays n (octets m) o r o') (omega arith) l))
          where
            all : (n : ℕ) (t : List ℕ) → length t ≡ n → take n t ≡ t
            all n t q = take_all n t (omega arith)

        -- they do not compose, and the character is a dotless letter, which gets its dot
        pub dots : (r₁ : ℕ) (o₁ : List ℕ) (r : ℕ) (o' : List ℕ) → lookup composites (dotted c) m ≡ None → (dotted c ≡ c → ⊥)
            → Lays at (octets (dotted c)) o r₁ o₁ → Lays r₁ (octets m) o₁ r o' → Lays a (last_char_combine (given t) m) o r o'
        dots r₁ o₁ r o' f g l₁ l₂ =
            lays-as a (front t ++ (octets (dotted c) ++ octets m)) _ o r o'
            (sym (append_assoc (front t) (octets (dotted c)) (octets m))
            ∙ sym (combined ∙ to-c ∙ ap (with_mark t c m) f ∙ rw (ne_eqb (dotted c) c g) refl))
            (at_last (octets (dotted c) ++ octets m) r o' (lays-on at (octets (dotted c)) (octets m) o r₁ o₁ r o' l₁ l₂))

-- what `find` answers in the lent table is the lookup in the list
pub looked : (t : List ℕ) (d m c : ℕ) (r x : Option ℕ) → r ≡ halved t d m → t ≡ numbers composites → d ≡ dotted c → r ≡ x
    → lookup composites (dotted c) m ≡ x
looked t d m c r x h e q f =
    sym (composition.by-halving (dotted c) m) ∙ sym (ap₂ (λ (s : List ℕ) (n : ℕ). halved s n m) e q) ∙ sym h ∙ f

-- ---- there is room for what is written

-- a single octet is no character of four octets
short-code : (s : List ℕ) → length s ≡ 1 → code s ≤ 0xFFFF
unfolding code value gather
short-code [] h = absurd (omega arith)
short-code (b ∷ []) h = by (eqb (width (b ∷ [])) 0) (width (b ∷ []))
  where
    one : (w : ℕ) → value (take w (b ∷ [])) ≤ 0xFFFF
    one zero = omega arith
    one (suc zero) = omega arith
    one (suc (suc n)) = omega arith

    by : (z : Bool) (w : ℕ) → cond z 0xFFFD (value (take w (b ∷ []))) ≤ 0xFFFF
    by true w = omega arith
    by false w = one w
short-code (b ∷ d ∷ s) h = absurd (omega arith)

dotted-wide : (c : ℕ) → 0x10000 ≤ dotted c → 0x10000 ≤ c
unfolding dotted
dotted-wide c = by (eqb c 0x131) (eqb c 0x237)
  where
    by : (p q : Bool) → 0x10000 ≤ cond p 0x69 (cond q 0x6A c) → 0x10000 ≤ c
    by true q h = absurd (omega arith)
    by false true h = absurd (omega arith)
    by false false h = h

pub char-room : (o : List ℕ) (at e c m x : ℕ) → at < e → e ≤ length o → c ≡ code (part o at e) → lookup composites (dotted c) m ≡ Some x
    → (is_scalar x ≡ true) × (at + length (octets x) ≤ e + 2)
char-room o at e c m x l n q f =
    let h = composed-fine (dotted c) m x f in
    (h.0, by (leb x 0xFFFF) (leb 0x10000 (dotted c)) refl refl h.1)
  where
    two-more : (at e p n : ℕ) → at < e → p ≡ e - at → (p ≡ 1 → ⊥) → n ≤ 4 → at + n ≤ e + 2
    two-more at e p n l q h f = omega (arith, l, q, h, f)

    by : (v w : Bool) → leb x 0xFFFF ≡ v → leb 0x10000 (dotted c) ≡ w → (v || w) ≡ true → at + length (octets x) ≤ e + 2
    by true w d g h = omega (arith, octets-three x (leb-true x 0xFFFF d), l)
    by false false d g h = let z : ◌≡◌ {A = ℕ} 1 0 = ap (λ (b : Bool). cond b 0 1) h in absurd (omega (arith, z))
    by false true d g h =
        let big : 0x10000 ≤ c = dotted-wide c (leb-true 0x10000 (dotted c) g) in
        let long : length (part o at e) ≡ 1 → ⊥ = λ p. let s = short-code (part o at e) p in omega (arith, s, q, big) in
        two-more at e (length (part o at e)) (length (octets x)) l (length_part o at e (omega (arith, l)) n) long (octets-few x)

pub bare-room : (a e m r : ℕ) → a ≤ e → r ≡ bare m → is_scalar m ≡ true → m ≤ 0x7FF → (is_scalar r ≡ true) × (a + length (octets r) ≤ e + 2)
bare-room a e m r l q s k = let h = bare-fine m s k in (ap is_scalar q ∙ h.0, omega (arith, octets-two r (omega (arith, q, h.1)), l))

pub dot-room : (at e c d : ℕ) → at < e → d ≡ dotted c → (d ≡ c → ⊥) → (is_scalar d ≡ true) × (length (octets d) ≡ 1)
dot-room at e c d l q n = let h = dotted-fine c (λ p. n (q ∙ p)) in (ap is_scalar q ∙ h.0, octets-one d (omega (arith, q, h.1)))
