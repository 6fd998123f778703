-- Search by halving, without the bound on turns: what `place` goes by.
--     on-behind, on-front     one turn, where the place in the middle is low, and where it is not
--     over                    where no place is left
-- Assumes nothing.
use Rattle.std.proofs.Common.{ℕ, zero, suc, ◌+◌, ◌-◌, ◌≤◌, ◌<◌, ◌≡◌, refl, sym, ap, ◌∙◌, Bool, true, false, cond, arith, lt-ltb, le-ltb}
use Rattle.search.specs.Halving.{middle, halving, between}

-- as many turns as places are enough: more give the same
enough : (n k : ℕ) (low : ℕ → Bool) (lo hi : ℕ) → hi ≤ lo + n → hi ≤ lo + k → halving n low lo hi ≡ halving k low lo hi
unfolding halving
enough zero zero low lo hi p q = refl
enough zero (suc k) low lo hi p q = rw (le-ltb lo hi (omega arith))
enough (suc n) zero low lo hi p q = rw (le-ltb lo hi (omega arith))
enough (suc n) (suc k) low lo hi p q =
    rw (enough n k low (middle lo hi + 1) hi (omega arith) (omega arith), enough n k low lo (middle lo hi) (omega arith) (omega arith))

module _ (low : ℕ → Bool) (lo hi : ℕ) where
  turn : lo < hi → between low lo hi ≡ cond (low (middle lo hi)) (between low (middle lo hi + 1) hi) (between low lo (middle lo hi))
  unfolding between halving
  turn h =
      let k = middle lo hi in
      let n = hi - lo - 1 in
      let e : hi - lo ≡ suc n = omega arith in
      let behind : halving n low (k + 1) hi ≡ between low (k + 1) hi = enough n (hi - (k + 1)) low (k + 1) hi (omega arith) (omega arith) in
      let front : halving n low lo k ≡ between low lo k = enough n (k - lo) low lo k (omega arith) (omega arith) in
      ap (λ (n : ℕ). halving n low lo hi) e ∙ rw (lt-ltb lo hi h, behind, front)

  pub on-behind : lo < hi → low (middle lo hi) ≡ true → between low (middle lo hi + 1) hi ≡ between low lo hi
  on-behind h e = sym (turn h ∙ rw e)

  pub on-front : lo < hi → low (middle lo hi) ≡ false → between low lo (middle lo hi) ≡ between low lo hi
  on-front h e = sym (turn h ∙ rw e)

  pub over : hi ≤ lo → between low lo hi ≡ lo
  unfolding between halving
  over h = enough (hi - lo) 0 low lo hi (omega arith) (omega arith)
