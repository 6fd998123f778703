-- Lists merged and sorted. First by any order:
--     In, PlaceIn, at_in, in-at       x is in a list: it is at some place of it
--     merged-in, in-merged            two merged lists have the numbers that one of the two has, and no others
--     sorted-in, in-sorted            a sorted list has the numbers that the list had, and no others
--     merged-length, sorted-length    how many numbers they have
--     Sorted, sorted-at               each number of a list comes before those behind it
-- Then by an order that is total and transitive:
--     merged-sorted, sorted-sorted    two sorted lists merged are sorted, and `sorted` sorts
-- Assumes nothing.
use Rattle.std.proofs.Common.{ℕ, zero, suc, ◌+◌, ◌/◌, ◌^◌, ◌≤◌, ◌<◌, arith, ◌≡◌, refl, sym, Bool, true, false, cond, List, [], ◌∷◌, ◌⊎◌, inl, inr}
use Rattle.std.proofs.Common.{⊎_elim, length, get_or, take, drop, length-take, length-drop, ltb, ltb-true}
use Rattle.std.proofs.Math.Nat.{two-pow-succ}
use Rattle.lookup.specs.Order.{merged, merged_at, sorted}

-- ---- what is in a list

abbrev pub In : ℕ → List ℕ → Type 0
In x [] = ⊥
In x (y ∷ ys) = (x ≡ y) ⊎ In x ys

pub record PlaceIn (x : ℕ) (xs : List ℕ) : Type 0 where
  pub place : ℕ
  pub below : place < length xs
  pub here : get_or xs place 0 ≡ x

pub at_in : (xs : List ℕ) (p : ℕ) → p < length xs → In (get_or xs p 0) xs
at_in [] p h = absurd (omega arith)
at_in (x ∷ xs) zero h = inl refl
at_in (x ∷ xs) (suc p) h = inr (at_in xs p (omega arith))

pub in-at : (x : ℕ) (xs : List ℕ) → In x xs → PlaceIn x xs
in-at x [] h = absurd h
in-at x (y ∷ ys) h = by h (in-at x ys)
  where
    by : (x ≡ y) ⊎ In x ys → (In x ys → PlaceIn x ys) → PlaceIn x (y ∷ ys)
    by (inl e) f = record { place = 0; below = omega arith; here = sym e }
    by (inr i) f = let p = f i in record { place = suc p.place; below = omega (arith, p.below); here = p.here }

-- a list cut in two
in-front : (x n : ℕ) (xs : List ℕ) → In x (take n xs) → In x xs
in-front x zero xs h = absurd h
in-front x (suc n) [] h = absurd h
in-front x (suc n) (y ∷ ys) (inl e) = inl e
in-front x (suc n) (y ∷ ys) (inr i) = inr (in-front x n ys i)

in-back : (x n : ℕ) (xs : List ℕ) → In x (drop n xs) → In x xs
in-back x zero xs h = h
in-back x (suc n) [] h = absurd h
in-back x (suc n) (y ∷ ys) h = inr (in-back x n ys h)

in_cut : (x n : ℕ) (xs : List ℕ) → In x xs → In x (take n xs) ⊎ In x (drop n xs)
in_cut x zero xs h = inr h
in_cut x (suc n) [] h = absurd h
in_cut x (suc n) (y ∷ ys) (inl e) = inl (inl e)
in_cut x (suc n) (y ∷ ys) (inr i) = ⊎_elim (λ a. inl (inr a)) inr (in_cut x n ys i)

-- ---- merged and sorted by any order

module _ (le : ℕ → ℕ → Bool) where
  -- where f merges what is behind x
  at-in-merged : (z x : ℕ) (xs : List ℕ) (f : List ℕ → List ℕ) → ((ys : List ℕ) → In z (f ys) → In z xs ⊎ In z ys) →
      (ys : List ℕ) → In z (merged_at le x f ys) → In z (x ∷ xs) ⊎ In z ys
  unfolding merged_at
  at-in-merged z x xs f m [] (inl e) = inl (inl e)
  at-in-merged z x xs f m [] (inr i) = ⊎_elim (λ a. inl (inr a)) inr (m [] i)
  at-in-merged z x xs f m (y ∷ ys) i = by (le x y) i (at-in-merged z x xs f m ys)
    where
      by : (b : Bool) → In z (cond b (x ∷ f (y ∷ ys)) (y ∷ merged_at le x f ys)) → (In z (merged_at le x f ys) → In z (x ∷ xs) ⊎ In z ys) →
          In z (x ∷ xs) ⊎ In z (y ∷ ys)
      by true (inl e) g = inl (inl e)
      by true (inr i) g = ⊎_elim (λ a. inl (inr a)) inr (m (y ∷ ys) i)
      by false (inl e) g = inr (inl e)
      by false (inr i) g = ⊎_elim inl (λ a. inr (inr a)) (g i)

  pub merged-in : (z : ℕ) (xs ys : List ℕ) → In z (merged le xs ys) → In z xs ⊎ In z ys
  unfolding merged
  merged-in z [] ys i = inr i
  merged-in z (x ∷ xs) ys i = at-in-merged z x xs (merged le xs) (merged-in z xs) ys i

  at-merged-in : (z x : ℕ) (xs : List ℕ) (f : List ℕ → List ℕ) → ((ys : List ℕ) → In z xs ⊎ In z ys → In z (f ys)) →
      (ys : List ℕ) → In z (x ∷ xs) ⊎ In z ys → In z (merged_at le x f ys)
  unfolding merged_at
  at-merged-in z x xs f m [] (inl (inl e)) = inl e
  at-merged-in z x xs f m [] (inl (inr i)) = inr (m [] (inl i))
  at-merged-in z x xs f m [] (inr i) = absurd i
  at-merged-in z x xs f m (y ∷ ys) i = by (le x y) i (at-merged-in z x xs f m ys)
    where
      by : (b : Bool) → In z (x ∷ xs) ⊎ In z (y ∷ ys) → (In z (x ∷ xs) ⊎ In z ys → In z (merged_at le x f ys)) →
          In z (cond b (x ∷ f (y ∷ ys)) (y ∷ merged_at le x f ys))
      by true (inl (inl e)) g = inl e
      by true (inl (inr i)) g = inr (m (y ∷ ys) (inl i))
      by true (inr i) g = inr (m (y ∷ ys) (inr i))
      by false (inl i) g = inr (g (inl i))
      by false (inr (inl e)) g = inl e
      by false (inr (inr i)) g = inr (g (inr i))

  pub in-merged : (z : ℕ) (xs ys : List ℕ) → In z xs ⊎ In z ys → In z (merged le xs ys)
  unfolding merged
  in-merged z [] ys (inl i) = absurd i
  in-merged z [] ys (inr i) = i
  in-merged z (x ∷ xs) ys i = at-merged-in z x xs (merged le xs) (in-merged z xs) ys i

  pub sorted-in : (z d : ℕ) (xs : List ℕ) → In z (sorted le d xs) → In z xs
  unfolding sorted
  sorted-in z zero xs i = i
  sorted-in z (suc d) xs i = by (ltb (length xs) 2) i (λ ys. sorted-in z d ys)
    where
      by : (b : Bool) → In z (cond b xs (merged le (sorted le d (take (length xs / 2) xs)) (sorted le d (drop (length xs / 2) xs)))) →
          ((ys : List ℕ) → In z (sorted le d ys) → In z ys) → In z xs
      by true i f = i
      by false i f =
          ⊎_elim (λ a. in-front z (length xs / 2) xs (f _ a)) (λ a. in-back z (length xs / 2) xs (f _ a)) (merged-in z _ _ i)

  pub in-sorted : (z d : ℕ) (xs : List ℕ) → In z xs → In z (sorted le d xs)
  unfolding sorted
  in-sorted z zero xs i = i
  in-sorted z (suc d) xs i = by (ltb (length xs) 2) (λ ys. in-sorted z d ys)
    where
      by : (b : Bool) → ((ys : List ℕ) → In z ys → In z (sorted le d ys)) →
          In z (cond b xs (merged le (sorted le d (take (length xs / 2) xs)) (sorted le d (drop (length xs / 2) xs))))
      by true f = i
      by false f = in-merged z _ _ (⊎_elim (λ a. inl (f _ a)) (λ a. inr (f _ a)) (in_cut z (length xs / 2) xs i))

  at_length : (x n : ℕ) (f : List ℕ → List ℕ) → ((ys : List ℕ) → length (f ys) ≡ n + length ys) →
      (ys : List ℕ) → length (merged_at le x f ys) ≡ suc n + length ys
  unfolding merged_at
  at_length x n f m [] = omega (arith, m [])
  at_length x n f m (y ∷ ys) = by (le x y) (at_length x n f m ys)
    where
      by : (b : Bool) → length (merged_at le x f ys) ≡ suc n + length ys →
          length (cond b (x ∷ f (y ∷ ys)) (y ∷ merged_at le x f ys)) ≡ suc n + suc (length ys)
      by true g = omega (arith, m (y ∷ ys))
      by false g = omega arith

  pub merged-length : (xs ys : List ℕ) → length (merged le xs ys) ≡ length xs + length ys
  unfolding merged
  merged-length [] ys = omega arith
  merged-length (x ∷ xs) ys = at_length x (length xs) (merged le xs) (merged-length xs) ys

  pub sorted-length : (d : ℕ) (xs : List ℕ) → length (sorted le d xs) ≡ length xs
  unfolding sorted
  sorted-length zero xs = refl
  sorted-length (suc d) xs = by (ltb (length xs) 2) (sorted-length d)
    where
      by : (b : Bool) → ((ys : List ℕ) → length (sorted le d ys) ≡ length ys) →
          length (cond b xs (merged le (sorted le d (take (length xs / 2) xs)) (sorted le d (drop (length xs / 2) xs)))) ≡ length xs
      by true f = refl
      by false f =
          let n = length xs / 2 in
          omega (arith, merged-length (sorted le d (take n xs)) (sorted le d (drop n xs)), f (take n xs), f (drop n xs), length-take n xs, length-drop n xs)

-- ---- sorted

-- each number comes before those behind it
abbrev pub Sorted : (ℕ → ℕ → Bool) → List ℕ → Type 0
Sorted le [] = Unit {0}
Sorted le (x ∷ xs) = ((y : ℕ) → In y xs → le x y ≡ true) × Sorted le xs

pub sorted-at : (le : ℕ → ℕ → Bool) (xs : List ℕ) → Sorted le xs → (p q : ℕ) → p < q → q < length xs → le (get_or xs p 0) (get_or xs q 0) ≡ true
sorted-at le [] s p q h k = absurd (omega arith)
sorted-at le (x ∷ xs) s p zero h k = absurd (omega arith)
sorted-at le (x ∷ xs) s zero (suc q) h k = s.0 (get_or xs q 0) (at_in xs q (omega arith))
sorted-at le (x ∷ xs) s (suc p) (suc q) h k = sorted-at le xs s.1 p q (omega arith) (omega arith)

short-sorted : (le : ℕ → ℕ → Bool) (xs : List ℕ) → length xs < 2 → Sorted le xs
short-sorted le [] h = tt
short-sorted le (x ∷ []) h = (λ y i. absurd i, tt)
short-sorted le (x ∷ y ∷ xs) h = absurd (omega arith)

module _ (le : ℕ → ℕ → Bool) (total : (i j : ℕ) → le i j ≡ false → le j i ≡ true)
    (trans : (i j k : ℕ) → le i j ≡ true → le j k ≡ true → le i k ≡ true) where
  -- what comes before the first number of a sorted list comes before all
  first-least : (z x : ℕ) (xs : List ℕ) → le z x ≡ true → Sorted le (x ∷ xs) → (y : ℕ) → In y (x ∷ xs) → le z y ≡ true
  first-least z x xs e s y (inl i) = rw i e
  first-least z x xs e s y (inr i) = trans z x y e (s.0 y i)

  at-sorted : (x : ℕ) (xs : List ℕ) → Sorted le (x ∷ xs) → ((ys : List ℕ) → Sorted le ys → Sorted le (merged le xs ys)) →
      (ys : List ℕ) → Sorted le ys → Sorted le (merged_at le x (merged le xs) ys)
  unfolding merged_at
  at-sorted x xs s m [] t = (λ z i. ⊎_elim (s.0 z) (λ a. absurd a) (merged-in le z xs [] i), m [] tt)
  at-sorted x xs s m (y ∷ ys) t = by (le x y) refl (at-sorted x xs s m ys t.1)
    where
      by : (b : Bool) → le x y ≡ b → Sorted le (merged_at le x (merged le xs) ys) →
          Sorted le (cond b (x ∷ merged le xs (y ∷ ys)) (y ∷ merged_at le x (merged le xs) ys))
      by true e g = (λ z i. ⊎_elim (s.0 z) (first-least x y ys e t z) (merged-in le z xs (y ∷ ys) i), m (y ∷ ys) t)
      by false e g =
          (λ z i. ⊎_elim (first-least y x xs (total x y e) s z) (t.0 z) (at-in-merged le z x xs (merged le xs) (merged-in le z xs) ys i), g)

  pub merged-sorted : (xs ys : List ℕ) → Sorted le xs → Sorted le ys → Sorted le (merged le xs ys)
  unfolding merged
  merged-sorted [] ys s t = t
  merged-sorted (x ∷ xs) ys s t = at-sorted x xs s (λ zs. merged-sorted xs zs s.1) ys t

  pub sorted-sorted : (d : ℕ) (xs : List ℕ) → length xs ≤ 2 ^ d → Sorted le (sorted le d xs)
  unfolding sorted
  sorted-sorted zero xs h = short-sorted le xs (omega arith)
  sorted-sorted (suc d) xs h = by (ltb (length xs) 2) refl (sorted-sorted d)
    where
      by : (b : Bool) → ltb (length xs) 2 ≡ b → ((ys : List ℕ) → length ys ≤ 2 ^ d → Sorted le (sorted le d ys)) →
          Sorted le (cond b xs (merged le (sorted le d (take (length xs / 2) xs)) (sorted le d (drop (length xs / 2) xs))))
      by true e f = short-sorted le xs (ltb-true (length xs) 2 e)
      by false e f =
          let n = length xs / 2 in
          let p = two-pow-succ d in
          let front : length (take n xs) ≤ 2 ^ d = omega (arith, length-take n xs) in
          let back : length (drop n xs) ≤ 2 ^ d = omega (arith, length-drop n xs) in
          merged-sorted _ _ (f (take n xs) front) (f (drop n xs) back)
