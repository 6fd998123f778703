-- What `other`, `back_blank` and `back_control` of src/turn.rt answer, in the form of their proofs: from the answers of the calls to `SaysText`
-- and `Grows`.
--     not_end, char-in               inside the text there is a character, which ends in it
--     other-white, grows-white       `other` at white space, which is written as one blank
--     other-char, grows-char         `other` at another character, which is copied
--     back-blank, grows-blank        `back_blank`: a backslash before white space
--     back-control, grows-control    `back_control`: a backslash before a control character
-- Assumes nothing.
use Rattle.std.proofs.Common.{ℕ, ◌+◌, ◌*◌, ◌≤◌, ◌<◌, arith, ◌≡◌, sym, subst, ◌∙◌, Bool, true, false, List, [], ◌∷◌, length, get_or}
use Rattle.std.specs.Prelude.{Option, Some, None, Ok}
use Rattle.text.specs.Class.{is_whitespace, is_control}
use Rattle.text.specs.Scan.{see, skip, part, Ahead}
use Rattle.text.specs.Scan.{Inside}
use Rattle.text.proofs.Seeing.{seeing}
use Rattle.command.specs.Stack.{Lays}
use Rattle.command.proofs.stacks.LaysLaws.{lays-on}
use Rattle.turn.specs.Turns.{SaysText, Grows, Behind, Ordinary}
use Rattle.turn.specs.declared.turn.Text.TheVariants as text
use Rattle.turn.proofs.ways.TextTurns.{Turns, wrote_one, wrote-two}
use Rattle.turn.proofs.ways.TextWays.{itself-of, copy-turn, blank_turn, control-turn, back-turn, white-begins, control-begins}

-- the place after white space, of which there is some
past-white : (s : List ℕ) (p c n q : ℕ) → see s p ≡ Some (c, n) → is_whitespace c ≡ true → q ≡ skip is_whitespace s p → Ahead s p q
    → (p < q) × (q ≤ length s) × (n ≤ q)
past-white s p c n q e w h a =
    let x = seeing.see-ahead s p c n e in
    let y = skip-from s n in
    let z = seeing.white-on s p c n e w in
    (omega (arith, x.0, y, z, h), omega (arith, a.to, x.0, x.1), omega (arith, y, z, h))
  where
    skip-from : (s : List ℕ) (n : ℕ) → n ≤ skip is_whitespace s n
    skip-from s n = (seeing.skip-ahead is_whitespace s n).from

-- ---- `other`

pub not_end : (s : List ℕ) (p : ℕ) {r : Option (ℕ × ℕ)} → r ≡ see s p → r ≡ None → p < length s → ⊥
not_end s p h e l = omega (arith, past (sym h ∙ e), l)
  where
    past : see s p ≡ None → length s ≤ p
    past q = subst (λ (v : Option (ℕ × ℕ)). Inside s p v) q (seeing.see-inside s p)

module _ (verb : Bool) (s : List ℕ) (p n : ℕ) (o : List ℕ) (room : n + 2 * length s ≤ length o + 2 * p) where
  module _ {r : Option (ℕ × ℕ)} {c m : ℕ} (h : r ≡ see s p) (e : r ≡ Some (c, m)) where
    seen : see s p ≡ Some (c, m)
    seen = sym h ∙ e

    pub char-in : (p < m) × (m ≤ length s)
    char-in = seeing.see-ahead s p c m seen

    pub other-white : {w : Bool} (q l : ℕ) (o' : List ℕ) → w ≡ is_whitespace c → w ≡ true → q ≡ skip is_whitespace s p → Lays n (0x20 ∷ []) o l o'
        → SaysText verb s p n o (Ok (text.Put q l)) o'
    other-white q l o' f g i y =
        wrote_one verb s p n o q l o' (0x20 ∷ []) (subst (Turns verb s p (0x20 ∷ [])) (sym i) (blank_turn verb s p c m seen (sym f ∙ g))) y

    pub grows-white : {w : Bool} (q l : ℕ) → w ≡ is_whitespace c → w ≡ true → q ≡ skip is_whitespace s p → Ahead s p q → l ≡ n + 1
        → Grows (length s) 1 p n q l
    grows-white q l f g i a y =
        let x = past-white s p c m q seen (sym f ∙ g) i a in
        record { at = omega (arith, x.0); inside = x.1; text = omega (arith, x.0, y) }

    pub other-char : {w : Bool} (l : ℕ) (o' : List ℕ) → Ordinary verb (get_or s p 0) → (get_or s p 0 ≡ 0x5C → ⊥) → (get_or s p 0 ≡ 0x2D → verb ≡ true)
        → w ≡ is_whitespace c → w ≡ false → Lays n (part s p m) o l o' → SaysText verb s p n o (Ok (text.Put m l)) o'
    other-char l o' a b d f g y = wrote_one verb s p n o m l o' (part s p m) (copy-turn verb s p c m seen
        (itself-of verb s p c m seen a b d (sym f ∙ g))) y

    pub grows-char : (l : ℕ) → l + p ≡ n + m → Grows (length s) 1 p n m l
    grows-char l y = record { at = omega (arith, char-in.0); inside = char-in.1; text = omega (arith, char-in.0, y) }

-- ---- behind a backslash

module _ (s : List ℕ) (p c m n : ℕ) (o : List ℕ) (h : Behind s p c m) where
  pub back-blank : (q l k : ℕ) (o₁ o₂ : List ℕ) → is_whitespace c ≡ true → q ≡ skip is_whitespace s (p + 1) → Lays n (part s p m) o k o₁
      → Lays k (0x20 ∷ []) o₁ l o₂
      → SaysText false s p n o (Ok (text.Put q l)) o₂
  back-blank q l k o₁ o₂ w i x y =
      wrote-two false s p n o q l o₂ (part s p m) (p + 1) (0x20 ∷ []) (back-turn s p c m h (white-begins c w))
      (subst (Turns false s (p + 1) (0x20 ∷ [])) (sym i) (blank_turn false s (p + 1) c m h.seen w))
      (lays-on n (part s p m) (0x20 ∷ []) o k o₁ l o₂ x y)

  pub grows-blank : (q l k : ℕ) → is_whitespace c ≡ true → q ≡ skip is_whitespace s (p + 1) → Ahead s (p + 1) q → k + p ≡ n + m → l ≡ k + 1
      → Grows (length s) 1 p n q l
  grows-blank q l k w i a x y =
      let z = past-white s (p + 1) c m q h.seen w i a in
      record { at = omega (arith, z.0); inside = z.1; text = omega (arith, z.2, h.from, x, y) }

  pub back-control : (l k : ℕ) (o₁ o₂ : List ℕ) → is_whitespace c ≡ false → is_control c ≡ true → Lays n (part s p m) o k o₁
      → Lays k (part s (p + 1) m) o₁ l o₂
      → SaysText false s p n o (Ok (text.Put m l)) o₂
  back-control l k o₁ o₂ w i x y =
      wrote-two false s p n o m l o₂ (part s p m) (p + 1) (part s (p + 1) m) (back-turn s p c m h (control-begins c i))
      (control-turn s (p + 1) c m h.seen i w)
      (lays-on n (part s p m) (part s (p + 1) m) o k o₁ l o₂ x y)

  pub grows-control : (l k : ℕ) → k + p ≡ n + m → l + (p + 1) ≡ k + m → Grows (length s) 1 p n m l
  grows-control l k x y = record { at = omega (arith, h.from); inside = h.to; text = omega (arith, h.from, x, y) }
