-- The first number from i on, and below n, that passes a test.
--     first-end, first-here, first-not      none is left; i passes; i does not pass
--     first-own, first-reaches              the one found passes, and none before it does
-- Assumes nothing.
use Rattle.std.proofs.Common.{ℕ, zero, suc, ◌+◌, ◌-◌, ◌≤◌, ◌<◌, arith, ◌≡◌, refl, sym, ◌∙◌, Bool, true, false, cond, true≢false, eqb, eqb-true}
use Rattle.std.proofs.lemmas.Bool.{eqb-false}
use Rattle.lookup.specs.Buckets.{first_of, first_from}

-- what is found is 0, or belongs to a number from i on and below n that passes
pub record Own (p : ℕ → Bool) (i n found : ℕ) : Type 0 where
  pub most : found ≤ n
  pub least : 0 < found → i < found
  pub passes : (j : ℕ) → found ≡ suc j → p j ≡ true

module _ (p : ℕ → Bool) where
  pub first-end : (n i : ℕ) → n ≤ i → first_from p n i ≡ 0
  unfolding first_of
  first-end n i h = let z : n - i ≡ 0 = omega arith in rw z

  pub first-here : (n i : ℕ) → i < n → p i ≡ true → first_from p n i ≡ suc i
  unfolding first_of
  first-here n i h e = let z : n - i ≡ suc (n - suc i) = omega arith in rw (z, e)

  pub first-not : (n i : ℕ) → i < n → p i ≡ false → first_from p n i ≡ first_from p n (suc i)
  unfolding first_of
  first-not n i h e = let z : n - i ≡ suc (n - suc i) = omega arith in rw (z, e)

  own_of : (k i : ℕ) → Own p i (i + k) (first_of p k i)
  unfolding first_of
  own_of zero i = record { most = omega arith; least = λ h. absurd (omega arith); passes = λ j e. absurd (omega arith) }
  own_of (suc k) i = by (p i) refl (own_of k (suc i))
    where
      by : (b : Bool) → p i ≡ b → Own p (suc i) (suc i + k) (first_of p k (suc i)) → Own p i (i + suc k) (cond b (suc i) (first_of p k (suc i)))
      by true t o = record { most = omega arith; least = λ h. omega arith; passes = λ j e. let z : j ≡ i = omega arith in rw z t }
      by false t o = record { most = omega (arith, o.most); least = λ h. omega (arith, o.least h); passes = o.passes }

  pub first-own : (n i : ℕ) → i ≤ n → Own p i n (first_from p n i)
  first-own n i h = let z : n ≡ i + (n - i) = omega arith in let o = own_of (n - i) i in record { most = omega (arith, o.most); least = o.least; passes = o.passes }

  reaches_of : (k i j : ℕ) → i ≤ j → j < i + k → p j ≡ true → (0 < first_of p k i) × (first_of p k i ≤ suc j)
  unfolding first_of
  reaches_of zero i j l h e = absurd (omega arith)
  reaches_of (suc k) i j l h e = by (p i) refl (eqb i j) refl (reaches_of k (suc i) j)
    where
      by : (b : Bool) → p i ≡ b → (t : Bool) → eqb i j ≡ t → (suc i ≤ j → j < suc i + k → p j ≡ true → (0 < first_of p k (suc i)) × (first_of p k (suc i) ≤ suc j)) →
          (0 < cond b (suc i) (first_of p k (suc i))) × (cond b (suc i) (first_of p k (suc i)) ≤ suc j)
      by true u t v f = (omega arith, omega arith)
      by false u true v f = absurd (true≢false (sym e ∙ (rw (eqb-true i j v) at u)))
      by false u false v f = let n = eqb-false i j v in f (omega arith) (omega arith) e

  pub first-reaches : (n i j : ℕ) → i ≤ j → j < n → p j ≡ true → (0 < first_from p n i) × (first_from p n i ≤ suc j)
  first-reaches n i j l h e = reaches_of (n - i) i j l (omega arith) e
