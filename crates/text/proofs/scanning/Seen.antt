-- What `decode` and the scanner find at a place.
--     decode-end, decode-none, decode-some    `decode_at`: at the end, at an octet that begins no sequence, at a sequence
--     see-end, see-at, see-decoded            `see`, at the end, before it, and by what `decode` answers
--     see-inside, char-inside                 a character ends after its place, and inside the text
--     see-ascii                               an octet of ASCII is a character by itself
-- Assumes nothing.
use Rattle.std.specs.Prelude.{Option, Some, None}
use mathlib.Core.Path.{◌≡◌, refl, sym, ap, ◌∙◌, subst}
use mathlib.Core.Bool.{Bool, true, false, cond}
use mathlib.Core.List.{List, [], ◌∷◌}
use Prim.Native.Nat.{ℕ, ◌+◌, ◌-◌, ◌<◌, ◌≤◌}
use native.Mathlib.Omega.{arith}
use native.Mathlib.Nat.{mod-eq_of_lt}
use lib.ListN.{length, get_or, take, drop, drop_of_length-le, length-drop}
use lib.Dec.{eqb}
use borrow.Author.Tests.{eq-eqb, ne_eqb, eqb-true, eqb-false}
use Rattle.text.specs.Utf8.{width, value, decode_from, decode_at}
use Rattle.text.specs.Scan.{code, rest, see_from, see, next_of, past_one, Ahead, Inside}
use Rattle.text.specs.declared.utf8.Decoded.{Decoded}
use Rattle.text.specs.declared.utf8.Decoded.TheVariants as decoded
use Rattle.text.proofs.sequences.Lengths.{width-inside}
use Rattle.text.proofs.sequences.FirstOctet.{width-ascii}
use Rattle.text.proofs.general.Places.{drop-next, value-one}

pub decode-end : (s : List ℕ) (i : ℕ) → length s ≤ i → decode_at s i ≡ decoded.End
unfolding decode_from
decode-end s i h = rw (drop_of_length-le s h)

module _ (s : List ℕ) (i : ℕ) (h : i < length s) {w : ℕ} (q : w ≡ width (drop i s)) where
  pub decode-none : w ≡ 0 → decode_at s i ≡ decoded.IllFormed
  unfolding decode_from
  decode-none z = let e = sym (ap width (drop-next s i h)) ∙ sym q in rw (drop-next s i h, eq-eqb _ 0 (e ∙ z))

  pub decode-some : (w ≡ 0 → ⊥) → decode_at s i ≡ decoded.Char (value (take w (drop i s))) (i + w)
  unfolding decode_from
  decode-some z = rw (q, drop-next s i h, ne_eqb _ 0 (λ y. z (q ∙ ap width (drop-next s i h) ∙ y)))

pub see-end : (s : List ℕ) (i : ℕ) → length s ≤ i → see s i ≡ None
unfolding see_from
see-end s i h = rw (drop_of_length-le s h)

pub see-at : (s : List ℕ) (i : ℕ) → i < length s → see s i ≡ Some (code (drop i s), i + 1 + rest (drop i s))
unfolding see_from
see-at s i h = rw (drop-next s i h)

-- what the scanner sees where `decode` gives this answer
abbrev pub seen_of : ℕ → Decoded → Option (ℕ × ℕ)
seen_of i decoded.End = None
seen_of i (decoded.Char c n) = Some (c, n)
seen_of i decoded.IllFormed = Some (0xFFFD, i + 1)

from-decoded : (u : List ℕ) (i : ℕ) → see_from u i ≡ seen_of i (decode_from u i)
unfolding see_from decode_from code rest
from-decoded [] i = refl
from-decoded (b ∷ s) i = go (width (b ∷ s)) (eqb (width (b ∷ s)) 0) refl
  where
    go : (w : ℕ) (t : Bool) → eqb w 0 ≡ t →
        Some (cond t 0xFFFD (value (take w (b ∷ s))), i + 1 + (w - 1)) ≡ seen_of i (cond t decoded.IllFormed (decoded.Char (value (take w (b ∷ s))) (i + w)))
    go w true e = let q = eqb-true w 0 e in ap (λ (n' : ℕ). Some (0xFFFD, n')) (omega arith)
    go w false e = let q = eqb-false w 0 e in ap (λ (n' : ℕ). Some ((value (take w (b ∷ s))), n')) (omega arith)

pub see-decoded : (s : List ℕ) (i : ℕ) → see s i ≡ seen_of i (decode_at s i)
see-decoded s i = from-decoded (drop i s) i

rest-inside : (u : List ℕ) → 0 < length u → rest u < length u
unfolding rest
rest-inside u h = omega (arith, (width-inside u).0)

pub see-inside : (s : List ℕ) (i : ℕ) → Inside s i (see s i)
see-inside s i = go (eqb (length s - i) 0) refl
  where
    go : (t : Bool) → eqb (length s - i) 0 ≡ t → Inside s i (see s i)
    go true e = let h : length s ≤ i = omega (arith, eqb-true (length s - i) 0 e) in rw (see-end s i h) h
    go false e =
        let h : i < length s = omega (arith, eqb-false (length s - i) 0 e) in
        let l = length-drop i s in
        let r = rest-inside (drop i s) (omega arith) in
        rw (see-at s i h) (omega arith, omega arith)

pub see-ascii : (s : List ℕ) (i : ℕ) → i < length s → get_or s i 0 < 0x80 → see s i ≡ Some (get_or s i 0, i + 1)
unfolding code rest
see-ascii s i h a =
    let w = width-ascii s i h (omega arith) a in
    see-at s i h
    ∙ rw w (ap (λ (c : ℕ). Some (c, i + 1 + 0)) (value-one s i 1 (omega arith) refl ∙ mod-eq_of_lt (omega arith))
    ∙ ap (λ (n' : ℕ). Some ((get_or s i 0), n')) (omega arith))

-- ---- after a call: g is what it answered, and x the case that the code found in g

module _ (s : List ℕ) (i : ℕ) where
  pub seen-told : {g x : Decoded} → g ≡ decode_at s i → g ≡ x → seen_of i x ≡ see s i
  seen-told e p = ap (seen_of i) (sym p ∙ e) ∙ sym (see-decoded s i)

  pub seen-inside : {g : Option (ℕ × ℕ)} → g ≡ see s i → (g ≡ see s i) × Inside s i g
  seen-inside e = (e, subst (Inside s i) (sym e) (see-inside s i))

  next-ahead : (x : Option (ℕ × ℕ)) → Inside s i x → Ahead s i (next_of i x)
  next-ahead None h = record { from = omega arith; to = omega arith }
  next-ahead (Some (c, n)) h = record { from = omega arith; to = omega arith }

  module _ {g x : Option (ℕ × ℕ)} (e : g ≡ see s i) (p : g ≡ x) where
    pub next-told : (next_of i x ≡ next_of i (see s i)) × Ahead s i (next_of i x)
    next-told = (ap (next_of i) (sym p ∙ e), next-ahead x (subst (Inside s i) (sym e ∙ p) (see-inside s i)))

    pub past-told : (q : ℕ → Bool) → past_one q i x ≡ past_one q i (see s i)
    past-told q = ap (past_one q i) (sym p ∙ e)

  module _ {g : Option (ℕ × ℕ)} {c n : ℕ} (e : g ≡ see s i) (p : g ≡ Some (c, n)) (q : ℕ → Bool) where
    pub past-hit : q c ≡ true → n ≡ past_one q i (see s i)
    past-hit t = sym (ap (λ (b : Bool). cond b n i) t) ∙ past-told e p q

    pub past-miss : q c ≡ false → i ≡ past_one q i (see s i)
    past-miss t = sym (ap (λ (b : Bool). cond b n i) t) ∙ past-told e p q

-- a character that was seen ends after its place, and inside the text
pub char-inside : (s : List ℕ) (i : ℕ) {g : Option (ℕ × ℕ)} {c n : ℕ} → Inside s i g → g ≡ Some (c, n) → (i < n) × (n ≤ length s)
char-inside s i h p = subst (Inside s i) p h
