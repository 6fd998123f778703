-- The numbers of the definition rows, gathered from the first on: one turn of `gather`, by what its code tests.
--     Going, gather_none       where the loop stands; that nothing is gathered at first
--     going-in, going-not      row i is a definition; it is none
--     going-ends               behind the last row all are gathered
-- Assumes nothing.
use Rattle.std.proofs.Common.{ℕ, suc, ◌+◌, ◌-◌, ◌*◌, ◌/◌, ◌≤◌, ◌<◌, add-one, arith, ◌≡◌, sym, ap, ◌∙◌, Bool, true, false, List, [], ◌∷◌, ◌++◌}
use Rattle.std.proofs.Common.{append-nil, length, get_or, take, set, length-set, take-suc-set, length-take-le, eq-eqb, ne_eqb}
use Rattle.std.proofs.Math.Seq.{append_snoc}
use Rattle.row.specs.Numbers.{rows_of}
use Rattle.row.proofs.Laid.{laid}
use Rattle.lookup.specs.Buckets.{rising}
use Rattle.lookup.specs.Order.{is_definition, definitions}
use Rattle.lookup.proofs.rows.RowNumbers.{kind-by}

module _ (p : ℕ → Bool) where
  rising-in : (n i : ℕ) → i < n → p i ≡ true → rising p (n - i) i ≡ i ∷ rising p (n - (i + 1)) (i + 1)
  unfolding rising
  rising-in n i h e = let z : n - i ≡ suc (n - suc i) = omega arith in rw (z, e, add-one i)

  rising-not : (n i : ℕ) → i < n → p i ≡ false → rising p (n - i) i ≡ rising p (n - (i + 1)) (i + 1)
  unfolding rising
  rising-not n i h e = let z : n - i ≡ suc (n - suc i) = omega arith in rw (z, e, add-one i)

  rising_none : (n i : ℕ) → n ≤ i → rising p (n - i) i ≡ []
  unfolding rising
  rising_none n i h = let z : n - i ≡ 0 = omega arith in rw z

-- m numbers of `next` are the definitions before row i
abbrev pub Gathered : List ℕ → List ℕ → ℕ → ℕ → Type 0
Gathered rows next m i = take m next ++ rising (is_definition (rows_of rows)) (length rows / 4 - i) i ≡ definitions (rows_of rows)

-- the rows before row i are gathered: m numbers of `next`, which has as many as at first
abbrev pub Going : List ℕ → List ℕ → List ℕ → ℕ → ℕ → Type 0
Going rows old next m i = (length next ≡ length old) × (m ≤ i) × (i ≤ length rows / 4) × Gathered rows next m i

module _ (rows next : List ℕ) where
  pub gather_none : Gathered rows next 0 0
  unfolding definitions
  gather_none =
      let z : length rows / 4 - 0 ≡ length (rows_of rows) = omega (arith, laid.rows-length rows) in
      rw z

  module _ (m i : ℕ) (so_far : Gathered rows next m i) where
    module _ (h : i < length rows / 4) where
      gather-in : get_or rows (i * 4) 0 ≡ 8 → m < length next → Gathered rows (set next m i) (m + 1) (i + 1)
      gather-in e k =
          let d : is_definition (rows_of rows) i ≡ true = rw (kind-by [] rows i h) (eq-eqb (get_or rows (i * 4) 0) 8 e) in
          let rest = rising (is_definition (rows_of rows)) (length rows / 4 - (i + 1)) (i + 1) in
          ap (λ (n : ℕ). take n (set next m i) ++ rest) (add-one m) ∙ ap (λ (l : List ℕ). l ++ rest) (take-suc-set next m i k)
          ∙ append_snoc (take m next) i rest
          ∙ ap (λ (l : List ℕ). take m next ++ l) (sym (rising-in (is_definition (rows_of rows)) (length rows / 4) i h d)) ∙ so_far

      gather-not : (get_or rows (i * 4) 0 ≡ 8 → ⊥) → Gathered rows next m (i + 1)
      gather-not e =
          let d : is_definition (rows_of rows) i ≡ false = rw (kind-by [] rows i h) (ne_eqb (get_or rows (i * 4) 0) 8 e) in
          ap (λ (l : List ℕ). take m next ++ l) (sym (rising-not (is_definition (rows_of rows)) (length rows / 4) i h d)) ∙ so_far

    gather-ends : length rows / 4 ≤ i → take m next ≡ definitions (rows_of rows)
    gather-ends h =
        sym (append-nil (take m next))
        ∙ ap (λ (l : List ℕ). take m next ++ l) (sym (rising_none (is_definition (rows_of rows)) (length rows / 4) i h)) ∙ so_far

    gather-count : length rows / 4 ≤ i → m ≤ length next → m ≡ length (definitions (rows_of rows))
    gather-count h k = sym (length-take-le m next k) ∙ ap length (gather-ends h)

module _ (rows old next : List ℕ) (m i : ℕ) (room : length rows / 4 ≤ length old) (g : Going rows old next m i) where
  module _ (next' : List ℕ) (m' : ℕ) (h : i < length rows / 4) where
    pub going-in : get_or rows (i * 4) 0 ≡ 8 → next' ≡ set next m i → m' ≡ m + 1 → Going rows old next' m' (i + 1)
    going-in e p q =
        rw (p, q) (length-set next m i ∙ g.0, omega (arith, g.1), omega arith, gather-in rows next m i g.3 h e (omega (arith, g.0, g.1)))

    pub going-not : (get_or rows (i * 4) 0 ≡ 8 → ⊥) → next' ≡ next → m' ≡ m → Going rows old next' m' (i + 1)
    going-not e p q = rw (p, q) (g.0, omega (arith, g.1), omega arith, gather-not rows next m i g.3 h e)

  pub going-ends : length rows / 4 ≤ i → (m ≡ length (definitions (rows_of rows))) × (take m next ≡ definitions (rows_of rows))
  going-ends h = (gather-count rows next m i g.3 h (omega (arith, g.0, g.1, g.2)), gather-ends rows next m i g.3 h)
