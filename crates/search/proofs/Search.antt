-- The proof of specs/Search.antt: `search`.
-- Assumes nothing.
use Rattle.std.proofs.Common.{ℕ, zero, suc, ◌+◌, ◌-◌, ◌≤◌, ◌<◌, ◌≡◌, refl, Bool, true, false, cond, ltb, arith, ltb-true, ltb-false}
use Rattle.search.specs.Halving.{middle, halving, between}
use Rattle.search.specs.Search.{Search}
use Rattle.search.proofs.halving.Order.{irreflexive, transitive}

module _ (low : ℕ → Bool) (n m : ℕ) (inside : m ≤ n) (yes : (k : ℕ) → k < m → low k ≡ true) (no : (k : ℕ) → m ≤ k → k < n → low k ≡ false) where
  -- m stays between the two ends; t bounds the places that are left
  by-turns : (t lo hi : ℕ) → hi ≤ lo + t → lo ≤ m → m ≤ hi → hi ≤ n → halving t low lo hi ≡ m
  unfolding halving
  by-turns zero lo hi p a b c = omega arith
  by-turns (suc t) lo hi p a b c = by (ltb lo hi) (ltb k m) refl refl (by-turns t (k + 1) hi) (by-turns t lo k)
    where
      k : ℕ
      k = middle lo hi

      by : (x y : Bool) → ltb lo hi ≡ x → ltb k m ≡ y
          → (hi ≤ k + 1 + t → k + 1 ≤ m → m ≤ hi → hi ≤ n → halving t low (k + 1) hi ≡ m)
          → (k ≤ lo + t → lo ≤ m → m ≤ k → k ≤ n → halving t low lo k ≡ m)
          → cond x (cond (low k) (halving t low (k + 1) hi) (halving t low lo k)) lo ≡ m
      by false y e f behind front = omega (arith, ltb-false lo hi e)
      by true true e f behind front =
          let h = ltb-true lo hi e in
          let g = ltb-true k m f in
          rw (yes k g) (behind (omega arith) (omega arith) b c)
      by true false e f behind front =
          let h = ltb-true lo hi e in
          let g = ltb-false k m f in
          rw (no k g (omega arith)) (front (omega arith) a g (omega arith))

  finds : between low 0 n ≡ m
  unfolding between
  finds = by-turns (n - 0) 0 n (omega arith) (omega arith) inside (omega arith)

pub search : Search
search = record { irreflexive = irreflexive; transitive = transitive; finds = finds }
