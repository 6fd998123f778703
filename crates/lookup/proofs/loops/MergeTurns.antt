-- Two lists merged: one turn of `merge`, by what its code tests.
--     first-left, first-right, first-both    whose number is next, where a list has ended, and where none has
--     left-inside, right-inside              the list whose number is next has not ended
--     Going                                  where the loop stands: i and j numbers are merged, and those behind them make up the rest
--     going-left, going-right                the next number is put behind those that are merged
--     going-ends                             at the end all numbers are merged
-- Assumes nothing.
use Rattle.std.proofs.Common.{ℕ, suc, ◌+◌, ◌≤◌, ◌<◌, add-one, arith, ◌≡◌, refl, sym, ap, ◌∙◌, Bool, true, false, true≢false, List, [], ◌∷◌, ◌++◌}
use Rattle.std.proofs.Common.{append-nil, length, get_or, take, drop, set, length-set, drop_of_length-le, drop-cons, take-suc-set, ltb, ltb-true}
use Rattle.std.proofs.Common.{ltb-false}
use Rattle.std.proofs.Math.Seq.{append_snoc}
use Rattle.lookup.specs.Order.{merged, merged_at, left_first}

module _ (le : ℕ → ℕ → Bool) where
  turn-left : (x : ℕ) (xs ys : List ℕ) → left_first le (x ∷ xs) ys ≡ true → merged le (x ∷ xs) ys ≡ x ∷ merged le xs ys
  unfolding left_first merged merged_at
  turn-left x xs [] e = refl
  turn-left x xs (y ∷ ys) e = let z : le x y ≡ true = e in rw z

  turn-right : (xs : List ℕ) (y : ℕ) (ys : List ℕ) → left_first le xs (y ∷ ys) ≡ false → merged le xs (y ∷ ys) ≡ y ∷ merged le xs ys
  unfolding left_first merged merged_at
  turn-right [] y ys e = refl
  turn-right (x ∷ xs) y ys e = let z : le x y ≡ false = e in rw z

  left-last : (xs : List ℕ) → left_first le xs [] ≡ true
  unfolding left_first
  left-last [] = refl
  left-last (x ∷ xs) = refl

  module _ (a b : List ℕ) (i j : ℕ) where
    pub first-left : length b ≤ j → left_first le (drop i a) (drop j b) ≡ true
    first-left h = rw (drop_of_length-le b h) (left-last (drop i a))

    pub first-right : length a ≤ i → j < length b → left_first le (drop i a) (drop j b) ≡ false
    unfolding left_first
    first-right h k = rw (drop_of_length-le a h, drop-cons b j 0 k)

    pub first-both : i < length a → j < length b → left_first le (drop i a) (drop j b) ≡ le (get_or a i 0) (get_or b j 0)
    unfolding left_first
    first-both h k = rw (drop-cons a i 0 h, drop-cons b j 0 k)

    pub left-inside : i + j < length a + length b → left_first le (drop i a) (drop j b) ≡ true → i < length a
    left-inside h e = by (ltb i (length a)) refl
      where
        by : (t : Bool) → ltb i (length a) ≡ t → i < length a
        by true t = ltb-true i (length a) t
        by false t = let k = ltb-false i (length a) t in absurd (true≢false (sym e ∙ first-right k (omega arith)))

    pub right-inside : left_first le (drop i a) (drop j b) ≡ false → j < length b
    right-inside e = by (ltb j (length b)) refl
      where
        by : (t : Bool) → ltb j (length b) ≡ t → j < length b
        by true t = ltb-true j (length b) t
        by false t = absurd (true≢false (sym (first-left (ltb-false j (length b) t)) ∙ e))

    module _ (out whole : List ℕ) (room : i + j < length out) (so_far : take (i + j) out ++ merged le (drop i a) (drop j b) ≡ whole) where
      put : (n v : ℕ) (rest : List ℕ) → n ≡ suc (i + j) → take n (set out (i + j) v) ++ rest ≡ take (i + j) out ++ v ∷ rest
      put n v rest e = rw (e, take-suc-set out (i + j) v room) (append_snoc (take (i + j) out) v rest)

      merge-left : i < length a → left_first le (drop i a) (drop j b) ≡ true →
          take (i + 1 + j) (set out (i + j) (get_or a i 0)) ++ merged le (drop (i + 1) a) (drop j b) ≡ whole
      merge-left h e =
          let z : left_first le (get_or a i 0 ∷ drop (suc i) a) (drop j b) ≡ true = rw (drop-cons a i 0 h) at e in
          let t : merged le (drop i a) (drop j b) ≡ get_or a i 0 ∷ merged le (drop (suc i) a) (drop j b) =
          rw (drop-cons a i 0 h) (turn-left (get_or a i 0) (drop (suc i) a) (drop j b) z) in
          put (i + 1 + j) (get_or a i 0) (merged le (drop (i + 1) a) (drop j b)) (omega arith)
          ∙ ap (λ (n : ℕ). take (i + j) out ++ get_or a i 0 ∷ merged le (drop n a) (drop j b)) (add-one i)
          ∙ ap (λ (l : List ℕ). take (i + j) out ++ l) (sym t) ∙ so_far

      merge-right : left_first le (drop i a) (drop j b) ≡ false →
          take (i + (j + 1)) (set out (i + j) (get_or b j 0)) ++ merged le (drop i a) (drop (j + 1) b) ≡ whole
      merge-right e =
          let h = right-inside e in
          let z : left_first le (drop i a) (get_or b j 0 ∷ drop (suc j) b) ≡ false = rw (drop-cons b j 0 h) at e in
          let t : merged le (drop i a) (drop j b) ≡ get_or b j 0 ∷ merged le (drop i a) (drop (suc j) b) =
          rw (drop-cons b j 0 h) (turn-right (drop i a) (get_or b j 0) (drop (suc j) b) z) in
          put (i + (j + 1)) (get_or b j 0) (merged le (drop i a) (drop (j + 1) b)) (omega arith)
          ∙ ap (λ (n : ℕ). take (i + j) out ++ get_or b j 0 ∷ merged le (drop i a) (drop n b)) (add-one j)
          ∙ ap (λ (l : List ℕ). take (i + j) out ++ l) (sym t) ∙ so_far

  merge-ends : (a b out whole : List ℕ) (i j : ℕ) → i ≡ length a → j ≡ length b → take (i + j) out ++ merged le (drop i a) (drop j b) ≡ whole →
      take (length a + length b) out ≡ whole
  unfolding merged
  merge-ends a b out whole i j p q e =
      let u : length a ≤ i = omega arith in
      let v : length b ≤ j = omega arith in
      let z : take (i + j) out ++ merged le [] [] ≡ whole = rw (drop_of_length-le a u, drop_of_length-le b v) at e in
      rw (← p, ← q) (sym (append-nil (take (i + j) out)) ∙ z)

  -- where the loop stands; `out` has as many numbers as at first
  abbrev pub Going : List ℕ → List ℕ → List ℕ → List ℕ → ℕ → ℕ → Type 0
  Going a b old out i j = (length out ≡ length old) × (i ≤ length a) × (j ≤ length b) × (take (i + j) out ++ merged le (drop i a) (drop j b) ≡ merged le a b)

  module _ (a b old out : List ℕ) (i j : ℕ) (room : length a + length b ≤ length old) (g : Going a b old out i j) where
    pub going-left : i + j < length a + length b → left_first le (drop i a) (drop j b) ≡ true → Going a b old (set out (i + j) (get_or a i 0)) (i + 1) j
    going-left h e =
        let k = left-inside a b i j h e in
        (length-set out (i + j) (get_or a i 0) ∙ g.0, omega arith, g.2, merge-left a b i j out (merged le a b) (omega (arith, g.0)) g.3 k e)

    pub going-right : i + j < length a + length b → left_first le (drop i a) (drop j b) ≡ false → Going a b old (set out (i + j) (get_or b j 0)) i (j + 1)
    going-right h e =
        let k = right-inside a b i j e in
        (length-set out (i + j) (get_or b j 0) ∙ g.0, g.1, omega arith, merge-right a b i j out (merged le a b) (omega (arith, g.0)) g.3 e)

    pub going-ends : length a + length b ≤ i + j → take (length a + length b) out ≡ merged le a b
    going-ends h = merge-ends a b out (merged le a b) i j (omega (arith, g.1, g.2)) (omega (arith, g.1, g.2)) g.3
