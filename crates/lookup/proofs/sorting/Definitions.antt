-- The definition rows of a file.
--     Risen, rising-in, in-rising           which numbers `rising` has: those that pass
--     rising-length                         they are no more than the numbers that were tried
--     definition-in, in-definitions         `definitions` has exactly the numbers of the definition rows
--     definitions-length                    there are no more definitions than rows
-- Assumes nothing.
use Rattle.std.proofs.Common.{ℕ, zero, suc, ◌+◌, ◌≤◌, ◌<◌, arith, eq-or-lt_of_le, ◌≡◌, refl, sym, ap, ◌∙◌, Bool, true, false, cond, List, ◌∷◌, ◌⊎◌}
use Rattle.std.proofs.Common.{inl, inr, length}
use Rattle.std.proofs.lemmas.Bool.{false≢true}
use Rattle.row.specs.Row.{Row}
use Rattle.lookup.specs.Buckets.{rising}
use Rattle.lookup.specs.Order.{is_definition, definitions}
use Rattle.lookup.proofs.sorting.Sorted.{In}

-- ---- numbers that pass

-- j is one of k numbers from i on, and passes
pub record Risen (p : ℕ → Bool) (k i j : ℕ) : Type 0 where
  pub least : i ≤ j
  pub most : j < i + k
  pub passes : p j ≡ true

module _ (p : ℕ → Bool) where
  further : (k i j : ℕ) → Risen p k (suc i) j → Risen p (suc k) i j
  further k i j r = record { least = omega (arith, r.least); most = omega (arith, r.most); passes = r.passes }

  pub rising-in : (k i j : ℕ) → In j (rising p k i) → Risen p k i j
  unfolding rising
  rising-in zero i j h = absurd h
  rising-in (suc k) i j h = by (p i) refl h (rising-in k (suc i) j)
    where
      by : (b : Bool) → p i ≡ b → In j (cond b (i ∷ rising p k (suc i)) (rising p k (suc i))) → (In j (rising p k (suc i)) → Risen p k (suc i) j) →
          Risen p (suc k) i j
      by true e (inl q) f = record { least = omega arith; most = omega arith; passes = rw q e }
      by true e (inr h) f = further k i j (f h)
      by false e h f = further k i j (f h)

  pub in-rising : (k i j : ℕ) → Risen p k i j → In j (rising p k i)
  unfolding rising
  in-rising zero i j r = absurd (omega (arith, r.least, r.most))
  in-rising (suc k) i j r = by (p i) refl (eq-or-lt_of_le r.least) (in-rising k (suc i) j)
    where
      by : (b : Bool) → p i ≡ b → (i ≡ j) ⊎ (i < j) → (Risen p k (suc i) j → In j (rising p k (suc i))) →
          In j (cond b (i ∷ rising p k (suc i)) (rising p k (suc i)))
      by true e (inl q) f = inl (sym q)
      by true e (inr h) f = inr (f (record { least = h; most = omega (arith, r.most); passes = r.passes }))
      by false e (inl q) f = absurd (false≢true (sym e ∙ ap p q ∙ r.passes))
      by false e (inr h) f = f (record { least = h; most = omega (arith, r.most); passes = r.passes })

  pub rising-length : (k i : ℕ) → length (rising p k i) ≤ k
  unfolding rising
  rising-length zero i = omega arith
  rising-length (suc k) i = by (p i) (rising-length k (suc i))
    where
      by : (b : Bool) → length (rising p k (suc i)) ≤ k → length (cond b (i ∷ rising p k (suc i)) (rising p k (suc i))) ≤ suc k
      by true h = omega arith
      by false h = omega arith

-- ---- definitions

module _ (rs : List Row) where
  pub definition-in : (i : ℕ) → In i (definitions rs) → (i < length rs) × (is_definition rs i ≡ true)
  unfolding definitions
  definition-in i h = let r = rising-in (is_definition rs) (length rs) 0 i h in (omega (arith, r.most), r.passes)

  pub in-definitions : (i : ℕ) → i < length rs → is_definition rs i ≡ true → In i (definitions rs)
  unfolding definitions
  in-definitions i h e = in-rising (is_definition rs) (length rs) 0 i (record { least = omega arith; most = omega arith; passes = e })

  pub definitions-length : length (definitions rs) ≤ length rs
  unfolding definitions
  definitions-length = rising-length (is_definition rs) (length rs) 0
