-- The spelling of an entry's type, byte by byte: an ASCII word is spelled by ASCII characters only, one byte each.
--     spells-length            a text whose length differs from the word's does not spell it
--     spells-on, spells-off    a byte that spells the next letter, and one that does not
--     spells-done              after the last letter
--     ascii-word               that a word is ASCII, by computing
-- Assumes nothing.
use Rattle.std.proofs.Common.{ℕ, suc, ◌+◌, ◌-◌, ◌≤◌, ◌<◌, arith, ◌≡◌, refl, ◌∙◌, Bool, true, false, cond, ◌&&◌, List, [], ◌∷◌, length, get_or, drop, drop_of_length-le, T, ltb}
use Rattle.std.proofs.Common.{leb, eqb, ltb→lt, lt-ltb, le-ltb, ltb-true, ltb-false, eq-eqb, ne_eqb, eqb-true}
use Rattle.text.proofs.general.Places.{drop-next}
use borrow.Author.Tests.{eqb-false}
use Rattle.text.proofs.general.Below.{below, each}
use Rattle.text.proofs.Seeing.{seeing}
use Rattle.raw.specs.Grammar.{lower, spells}
use Rattle.raw.specs.Says.{Ascii}
use Rattle.raw.specs.Inner.{AsciiOnly}
use Rattle.raw.proofs.ways.ByteLoops.{seen_other}

lower-least : (c : ℕ) → c ≤ lower c
lower-least c = go (leb 0x41 c && leb c 0x5A)
  where
    go : (t : Bool) → c ≤ cond t (c + 0x20) c
    go true = omega arith
    go false = omega arith

letter-narrow : (w : ℕ) → w < 0x80 → AsciiOnly (λ c. eqb (lower c) w)
letter-narrow w h c l = ne_eqb (lower c) w (λ e. omega (arith, lower-least c))

-- ---- one letter

module _ (w : ℕ) (word s : List ℕ) (a e : ℕ) (l : a < e) (h : a < length s) (n : w < 0x80) where
  letter-on : lower (get_or s a 0) ≡ w → spells (w ∷ word) s a e ≡ spells word s (a + 1) e
  unfolding spells
  letter-on q =
      let b : get_or s a 0 < 0x80 = omega (arith, lower-least (get_or s a 0)) in
      rw (lt-ltb a e l, seeing.see-ascii s a h b, eq-eqb (lower (get_or s a 0)) w q)

  letter-off : (lower (get_or s a 0) ≡ w → ⊥) → spells (w ∷ word) s a e ≡ false
  unfolding spells
  letter-off q =
      let o = seen_other s a h in
      rw (lt-ltb a e l, o.2, o.3 (λ c. eqb (lower c) w) (letter-narrow w n) (ne_eqb _ _ q))

-- ---- the length

letter-none : (w : ℕ) (word s : List ℕ) (a e : ℕ) → e ≤ a → spells (w ∷ word) s a e ≡ false
unfolding spells
letter-none w word s a e h = rw (le-ltb a e h)

pub spells-length : (word s : List ℕ) (a e : ℕ) → Ascii word → a ≤ e → e ≤ length s → (e - a ≡ length word → ⊥) → spells word s a e ≡ false
unfolding spells
spells-length [] s a e k l h z = ne_eqb a e (λ q. z (omega arith))
spells-length (w ∷ word) s a e k l h z =
    go (ltb a e) refl (eqb (lower (get_or s a 0)) w) refl (λ m. spells-length word s (a + 1) e (λ j l. k (suc j) (omega arith)) m h (λ q. z (omega arith)))
  where
    go : (x : Bool) → ltb a e ≡ x → (y : Bool) → eqb (lower (get_or s a 0)) w ≡ y → (a + 1 ≤ e → spells word s (a + 1) e ≡ false) →
        spells (w ∷ word) s a e ≡ false
    go false p y q ih = letter-none w word s a e (ltb-false a e p)
    go true p false q ih = let m = ltb-true a e p in letter-off w word s a e m (omega arith) (k 0 (omega arith)) (eqb-false _ _ q)
    go true p true q ih = let m = ltb-true a e p in letter-on w word s a e m (omega arith) (k 0 (omega arith)) (eqb-true _ _ q) ∙ ih (omega arith)

-- ---- from the letter k on

module _ (s word : List ℕ) (at e : ℕ) (h : (at ≤ e) × (e ≤ length s) × Ascii word) (n : e - at ≡ length word) (k : ℕ) where
  module _ (l : k < length word) where
    pub spells-on : lower (get_or s (at + k) 0) ≡ get_or word k 0 → spells (drop k word) s (at + k) e ≡ spells (drop (k + 1) word) s (at + (k + 1)) e
    spells-on q =
        let i : at + (k + 1) ≡ at + k + 1 = omega arith in
        rw (drop-next word k l, i) (letter-on (get_or word k 0) (drop (k + 1) word) s (at + k) e (omega arith) (omega arith) (h.2 k l) q)

    pub spells-off : (lower (get_or s (at + k) 0) ≡ get_or word k 0 → ⊥) → spells (drop k word) s (at + k) e ≡ false
    spells-off q = rw (drop-next word k l) (letter-off (get_or word k 0) (drop (k + 1) word) s (at + k) e (omega arith) (omega arith) (h.2 k l) q)

  pub spells-done : k ≤ length word → length word ≤ k → spells (drop k word) s (at + k) e ≡ true
  unfolding spells
  spells-done l m = rw (drop_of_length-le word m) (eq-eqb (at + k) e (omega arith))

pub ascii-word : (w : List ℕ) → T (below (λ n. ltb (get_or w n 0) 128) (length w)) → Ascii w
ascii-word w t k l = ltb→lt (get_or w k 0) 128 (each (λ n. ltb (get_or w n 0) 128) (length w) t k l)
