-- A list sorted in one place: the ways through `sort`.
--     sort-stays                           a list that is not halved stays as it is
--     half, one_done, other, both_done     the list while its halves are sorted, and the part that is lent for the second
--     copied-back                          the first of the spare numbers, copied over the whole list
--     sort-whole                           the halves are sorted, merged into the spare numbers, and copied back
-- Assumes nothing.
use Rattle.std.proofs.Common.{ℕ, zero, suc, ◌-◌, ◌/◌, ◌≤◌, arith, ◌≡◌, refl, sym, ap, ap₂, ◌∙◌, Bool, true, false, cond, ◌||◌, List, [], ◌++◌}
use Rattle.std.proofs.Common.{append-nil, length, take, drop, drop_of_length-le, length-drop, take_all, take_at, drop_at, length-take-le, ltb, eqb}
use Rattle.std.proofs.Common.{eqb-true}
use Rattle.std.proofs.Math.Seq.{drop-length, length_front}
use Rattle.std.proofs.lemmas.Bool.{false≢true}
use borrow.Rule.Slice.PartMut.{mid_of, put_mid}
use Rattle.lookup.specs.Order.{merged, sorted}

module _ (le : ℕ → ℕ → Bool) where
  pub sort-stays : (d : ℕ) (xs : List ℕ) → (ltb (length xs) 2 || eqb d 0) ≡ true → xs ≡ sorted le d xs
  unfolding sorted
  sort-stays zero xs e = refl
  sort-stays (suc d) xs e = by (ltb (length xs) 2) (eqb (suc d) 0) refl refl e
    where
      by : (s t : Bool) → ltb (length xs) 2 ≡ s → eqb (suc d) 0 ≡ t → (s || t) ≡ true →
          xs ≡ cond (ltb (length xs) 2) xs (merged le (sorted le d (take (length xs / 2) xs)) (sorted le d (drop (length xs / 2) xs)))
      by true t p q e = rw p
      by false true p q e = absurd (let z = eqb-true (suc d) 0 q in omega arith)
      by false false p q e = absurd (false≢true e)

  sort-halves : (d : ℕ) (xs : List ℕ) → (ltb (length xs) 2 || eqb d 0) ≡ false →
      merged le (sorted le (d - 1) (take (length xs / 2) xs)) (sorted le (d - 1) (drop (length xs / 2) xs)) ≡ sorted le d xs
  unfolding sorted
  sort-halves zero xs e = by (ltb (length xs) 2) e
    where
      by : (s : Bool) → (s || true) ≡ false → merged le (sorted le (0 - 1) (take (length xs / 2) xs)) (sorted le (0 - 1) (drop (length xs / 2) xs)) ≡ xs
      by true e = absurd (false≢true (sym e))
      by false e = absurd (false≢true (sym e))
  sort-halves (suc d) xs e =
      let z : suc d - 1 ≡ d = omega arith in
      rw (z, by (ltb (length xs) 2) refl e)
    where
      by : (s : Bool) → ltb (length xs) 2 ≡ s → (s || eqb (suc d) 0) ≡ false → ltb (length xs) 2 ≡ false
      by true p e = absurd (false≢true (sym e))
      by false p e = p

-- ---- the list in its place: with its first half sorted, ys; and with its second half sorted too, zs

abbrev pub half : List ℕ → ℕ
half xs = length xs / 2

abbrev pub one_done : List ℕ → List ℕ → List ℕ
one_done xs ys = ys ++ drop (half xs) xs

abbrev pub other : List ℕ → List ℕ → List ℕ
other xs ys = mid_of (half xs) (length (one_done xs ys) - half xs) (one_done xs ys)

abbrev pub both_done : List ℕ → List ℕ → List ℕ → List ℕ
both_done xs ys zs = put_mid (half xs) (length (one_done xs ys) - half xs) (one_done xs ys) zs

pub copied-back : (spare xs : List ℕ) → take (length xs) spare ++ drop (length xs) xs ≡ take (length xs) spare
copied-back spare xs = ap (λ (l : List ℕ). take (length xs) spare ++ l) (drop-length xs) ∙ append-nil (take (length xs) spare)

half-size : (xs : List ℕ) → half xs ≡ length (take (half xs) xs)
half-size xs = sym (length-take-le (half xs) xs (omega arith))

module _ (xs ys : List ℕ) (as_many : length ys ≡ length (take (half xs) xs)) where
  one-length : length (one_done xs ys) ≡ length xs
  one-length = length_front xs ys (half xs) as_many

  size : length ys ≡ half xs
  size = as_many ∙ sym (half-size xs)

  behind : drop (half xs) (one_done xs ys) ≡ drop (half xs) xs
  behind = drop_at ys (drop (half xs) xs) (half xs) size

  all : length (drop (half xs) xs) ≤ length (one_done xs ys) - half xs
  all = omega (arith, length-drop (half xs) xs, one-length)

  other-is : other xs ys ≡ drop (half xs) xs
  other-is = ap (take (length (one_done xs ys) - half xs)) behind ∙ take_all (length (one_done xs ys) - half xs) (drop (half xs) xs) all

  both_is : (zs : List ℕ) → both_done xs ys zs ≡ ys ++ zs
  both_is zs =
      let k = length (one_done xs ys) - half xs in
      let none : drop k (drop (half xs) (one_done xs ys)) ≡ [] = ap (drop k) behind ∙ drop_of_length-le (drop (half xs) xs) {i = k} all in
      let front : take (half xs) (one_done xs ys) ≡ ys = take_at ys (drop (half xs) xs) (half xs) size in
      ap (λ (l : List ℕ). l ++ (zs ++ drop k (drop (half xs) (one_done xs ys)))) front ∙ ap (λ (l : List ℕ). ys ++ (zs ++ l)) none
      ∙ ap (λ (l : List ℕ). ys ++ l) (append-nil zs)

  pub sort-whole : (le : ℕ → ℕ → Bool) (d : ℕ) (zs spare out : List ℕ) → (ltb (length xs) 2 || eqb d 0) ≡ false →
      ys ≡ sorted le (d - 1) (take (half xs) xs) →
      zs ≡ sorted le (d - 1) (other xs ys) →
      take (length (both_done xs ys zs)) spare ≡ merged le (take (half xs) (both_done xs ys zs)) (drop (half xs) (both_done xs ys zs)) →
      out ≡ take (length (both_done xs ys zs)) spare → out ≡ sorted le d xs
  sort-whole le d zs spare out halved one two e f =
      let left : take (half xs) (both_done xs ys zs) ≡ sorted le (d - 1) (take (half xs) xs) =
      ap (take (half xs)) (both_is zs) ∙ take_at ys zs (half xs) size ∙ one in
      let right : drop (half xs) (both_done xs ys zs) ≡ sorted le (d - 1) (drop (half xs) xs) =
      ap (drop (half xs)) (both_is zs) ∙ drop_at ys zs (half xs) size ∙ two ∙ ap (sorted le (d - 1)) other-is in
      f ∙ e ∙ ap₂ (merged le) left right ∙ sort-halves le d xs halved
