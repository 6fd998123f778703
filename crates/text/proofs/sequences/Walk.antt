-- What a walk does at a place, said without the number of octets still to pass.
--     walk_end, walk-answer, walk-pass    at the end of the text, at a look that answers, at a look that passes
--     walk-keeps                          where every look keeps P, and P leads to Q where the walk ends, Q holds of the answer
-- Assumes nothing.
use Prim.Native.Nat.{ℕ, zero, suc, ◌+◌, ◌≤◌, ◌<◌}
use mathlib.Core.Path.{◌≡◌, refl, ap, ◌∙◌}
use mathlib.Core.List.{List, [], ◌∷◌}
use native.Mathlib.Omega.{arith}
use native.Mathlib.Nat.{not-suc-le-zero}
use lib.ListN.{length, drop, drop_of_length-le, length-drop}
use lib.Seq.{drop-drop}
use Rattle.text.specs.Walk.{Look, answer, pass, walk_from, walk}

module _ {R : Type 0} (f : ℕ → List ℕ → Look R) (e : ℕ → R) where
  -- where the text has the k octets still to pass, they are passed
  pub pass_on : (k i : ℕ) (s : List ℕ) → k ≤ length s → walk_from f e i k s ≡ walk_from f e (i + k) 0 (drop k s)
  unfolding walk_from
  pass_on zero i s h = ap (λ (n : ℕ). walk_from f e n 0 s) (omega arith)
  pass_on (suc k) i [] h = absurd (not-suc-le-zero h)
  pass_on (suc k) i (b ∷ s) h = pass_on k (suc i) s (omega arith) ∙ ap (λ (n : ℕ). walk_from f e n 0 (drop k s)) (omega arith)

  -- a look at a text that has not ended
  pub from-answer : (i : ℕ) (s : List ℕ) (r : R) → 0 < length s → f i s ≡ answer r → walk_from f e i 0 s ≡ r
  unfolding walk_from
  from-answer i [] r h q = absurd (not-suc-le-zero h)
  from-answer i (b ∷ s) r h q = rw (q, walk_from)

  pub from-pass : (i b k : ℕ) (s : List ℕ) → f i (b ∷ s) ≡ pass k → walk_from f e i 0 (b ∷ s) ≡ walk_from f e (suc i) k s
  unfolding walk_from
  from-pass i b k s q = rw (q, walk_from)

  pub from-passed : (i k : ℕ) (s : List ℕ) → k < length s → f i s ≡ pass k → walk_from f e i 0 s ≡ walk_from f e (i + suc k) 0 (drop (suc k) s)
  from-passed i k [] h q = absurd (not-suc-le-zero h)
  from-passed i k (b ∷ s) h q = from-pass i b k s q ∙ pass_on k (suc i) s (omega arith) ∙ ap (λ (n : ℕ). walk_from f e n 0 (drop k s)) (omega arith)

  pub walk_end : (s : List ℕ) (i : ℕ) → length s ≤ i → walk f e s i ≡ e i
  unfolding walk_from
  walk_end s i h = rw (drop_of_length-le s h)

  pub walk-answer : (s : List ℕ) (i : ℕ) (r : R) → i < length s → f i (drop i s) ≡ answer r → walk f e s i ≡ r
  walk-answer s i r h q = from-answer i (drop i s) r (omega (arith, length-drop i s)) q

  pub walk-pass : (s : List ℕ) (i k j : ℕ) → f i (drop i s) ≡ pass k → i + suc k ≡ j → j ≤ length s → walk f e s i ≡ walk f e s j
  walk-pass s i k j q d h =
      from-passed i k (drop i s) (omega (arith, length-drop i s)) q
      ∙ ap (λ (t : List ℕ). walk_from f e (i + suc k) 0 t) (drop-drop (suc k) i s)
      ∙ ap (λ (n : ℕ). walk_from f e n 0 (drop n s)) d

  module _ (P : ℕ → List ℕ → Type 0) (Q : R → Type 0)
      (go : (i k : ℕ) (s : List ℕ) → 0 < length s → P i s → f i s ≡ pass k → (k < length s) × P (i + suc k) (drop (suc k) s))
      (stop : (i : ℕ) (s : List ℕ) (r : R) → P i s → f i s ≡ answer r → Q r)
      (end : (i : ℕ) → P i [] → Q (e i)) where
    looked : (i b : ℕ) (s : List ℕ) → P i (b ∷ s) → ((k : ℕ) → P (i + suc k) (drop k s) → Q (walk_from f e (i + suc k) 0 (drop k s))) → (t : Look R) →
        f i (b ∷ s) ≡ t → Q (walk_from f e i 0 (b ∷ s))
    looked i b s p ih (answer r) q = rw (from-answer i (b ∷ s) r (omega arith) q) (stop i (b ∷ s) r p q)
    looked i b s p ih (pass k) q =
        let g = go i k (b ∷ s) (omega arith) p q in rw (from-passed i k (b ∷ s) g.0 q) (ih k g.1)

    turn : (n i : ℕ) (s : List ℕ) → length s ≤ suc n → P i s → ((j : ℕ) (t : List ℕ) → length t ≤ n → P j t → Q (walk_from f e j 0 t)) →
        Q (walk_from f e i 0 s)
    unfolding walk_from
    turn n i [] h p ih = end i p
    turn n i (b ∷ s) h p ih = looked i b s p (λ k q. ih (i + suc k) (drop k s) (omega (arith, length-drop k s)) q) (f i (b ∷ s)) refl

    empty : (i : ℕ) (s : List ℕ) → length s ≤ 0 → P i s → Q (walk_from f e i 0 s)
    unfolding walk_from
    empty i [] h p = end i p
    empty i (b ∷ s) h p = absurd (not-suc-le-zero h)

    -- by induction on n, where at most n octets are left
    keeps-by : (n i : ℕ) (s : List ℕ) → length s ≤ n → P i s → Q (walk_from f e i 0 s)
    keeps-by zero i s h p = empty i s h p
    keeps-by (suc n) i s h p = turn n i s h p (keeps-by n)

    pub walk-keeps : (s : List ℕ) (i : ℕ) → P i (drop i s) → Q (walk f e s i)
    walk-keeps s i p = keeps-by (length (drop i s)) i (drop i s) (omega arith) p
