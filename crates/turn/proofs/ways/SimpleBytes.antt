-- Simple bytes in a row, as the functions of src/turn.rt find them.
--     plain-none, plain-on      a run that has not begun; a run that goes on by a byte
--     words-none                no words
--     words-all, words-but      a simple byte and a run behind it, which does not end with a blank; or but for the blank at its end
-- Assumes nothing.
use Rattle.std.proofs.Common.{ℕ, ◌+◌, ◌-◌, ◌≤◌, ◌<◌, arith, eq-or-lt_of_le, ◌≡◌, refl, sym, ap, subst, ◌∙◌, true, false, ◌&&◌, ⊎_elim, List, length, get_or, eqb, eq-eqb}
use Rattle.text.specs.Block.{is_simple, PlainRun}
use Rattle.text.proofs.general.Tests.{true-not-false}
use Rattle.turn.specs.Turns.{WordRun}

pub plain-none : (s : List ℕ) (p : ℕ) → PlainRun s p p
plain-none s p = record {
  from = omega arith;
  to = omega arith;
  simple = λ k a b. absurd (omega (arith, a, b));
  single = λ k a b. absurd (omega (arith, a, b));
}

split : {A : Type 0} (n m : ℕ) → n ≤ m → (n ≡ m → A) → (n < m → A) → A
split n m h f g = ⊎_elim f g (eq-or-lt_of_le h)

pub plain-on : (s : List ℕ) (p i : ℕ) → PlainRun s p i → i < length s → is_simple (get_or s i 0) ≡ true
    → (eqb (get_or s (i - 1) 0) 0x20 && eqb (get_or s i 0) 0x20) ≡ false → PlainRun s p (i + 1)
plain-on s p i h l e n = record {
  from = omega (arith, h.from);
  to = omega (arith, l);
  simple = λ k a b. split k i (omega (arith, b)) (λ q. ap (λ (j : ℕ). is_simple (get_or s j 0)) q ∙ e) (h.simple k a);
  single = λ k a b. split k i (omega (arith, b))
      (λ q x y. both (subst (λ (j : ℕ). get_or s (j - 1) 0 ≡ 0x20) q x) (subst (λ (j : ℕ). get_or s j 0 ≡ 0x20) q y)) (h.single k a);
}
  where
    both : get_or s (i - 1) 0 ≡ 0x20 → get_or s i 0 ≡ 0x20 → ⊥
    both x y = true-not-false (eqb (get_or s (i - 1) 0) 0x20 && eqb (get_or s i 0) 0x20) (rw (eq-eqb _ _ x, eq-eqb _ _ y) refl) n

pub words-none : (s : List ℕ) (p : ℕ) → WordRun s p p
words-none s p = record {
  from = omega arith;
  to = omega arith;
  simple = λ k a b. absurd (omega (arith, a, b));
  single = λ k a b. absurd (omega (arith, a, b));
}

-- a simple byte, and a run behind it
module _ (s : List ℕ) (p j : ℕ) (l : p < length s) (e : is_simple (get_or s p 0) ≡ true) (h : PlainRun s (p + 1) j) where
  -- up to a place before which stands no blank
  words-to : (r : ℕ) → p ≤ r → r ≤ j → (p < r → get_or s (r - 1) 0 ≡ 0x20 → ⊥) → WordRun s p r
  words-to r a b n = record {
    from = a;
    to = omega (arith, l, b, h.to);
    simple = λ k x y.
        split p k x (λ q. ap (λ (i : ℕ). is_simple (get_or s i 0)) (sym q) ∙ e) (λ q. h.simple k (omega (arith, q)) (omega (arith, y, b)));
    single = λ k x y z.
        let o = inside k x y z in
        (o, h.single (k + 1) (omega (arith, x)) (omega (arith, o, b)) (subst (λ (i : ℕ). get_or s i 0 ≡ 0x20) (omega arith) z));
  }
    where
      inside : (k : ℕ) → p ≤ k → k < r → get_or s k 0 ≡ 0x20 → k + 1 < r
      inside k x y z =
          split (k + 1) r (omega (arith, y))
          (λ q. absurd (n (omega (arith, x, y)) (subst (λ (i : ℕ). get_or s i 0 ≡ 0x20) (omega (arith, q)) z))) (λ q. q)

  pub words-all : (get_or s (j - 1) 0 ≡ 0x20 → ⊥) → WordRun s p j
  words-all n = words-to j (omega (arith, h.from)) (omega arith) (λ q. n)

  pub words-but : get_or s (j - 1) 0 ≡ 0x20 → WordRun s p (j - 1)
  words-but b = words-to (j - 1) (omega (arith, h.from)) (omega arith) (λ q x. h.single (j - 1) (omega (arith, q)) (omega (arith, h.from)) x b)
