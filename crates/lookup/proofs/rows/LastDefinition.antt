-- The last definition of a name.
--     none_more                              one row more in front, which does not define the name
--     SaysLast, last-is, last_says           row i is found exactly if it defines the name and nothing is found behind it
--     none_is, none-says                     nothing is found exactly if no row defines the name
--     from_is, from-none                     what is found among the rows from row `from` on
--     from_row, from_nothing, from_first     what `last_from` says, as `last_named` says it
-- Assumes nothing.
use Rattle.std.proofs.Common.{ℕ, zero, suc, ◌+◌, ◌-◌, ◌≤◌, ◌<◌, arith, ◌≡◌, refl, sym, ap, ◌∙◌, Bool, true, false, cond, List, [], ◌∷◌, length, drop}
use Rattle.std.proofs.Common.{length-drop, drop-cons, drop-drop, get_or-drop, Option, Some, None}
use Rattle.row.specs.Row.{Row, row_of}
use Rattle.lookup.specs.Names.{is_named, later, last_named, row_no}
use Rattle.lookup.specs.RowIndex.{counted, last_from}

-- one more than the number of the row, or 0
abbrev rank : Option ℕ → ℕ
rank (Some n) = suc n
rank None = 0

row-nothing : {A : Type 0} (f : Option ℕ) (n : ℕ) → f ≡ Some n → f ≡ None → A
row-nothing f n p q = let z : suc n ≡ 0 = ap rank (sym p ∙ q) in absurd (omega arith)

row_one : (n m : ℕ) → Some n ≡ Some m → n ≡ m
row_one n m e = let z : suc n ≡ suc m = ap rank e in omega arith

later-nothing : (f : Option ℕ) (b : Bool) → later f b ≡ None → (f ≡ None) × (b ≡ false)
unfolding later
later-nothing (Some n) true e = row-nothing _ _ refl e
later-nothing (Some n) false e = row-nothing _ _ refl e
later-nothing None true e = row-nothing _ _ refl e
later-nothing None false e = (refl, refl)

-- row i is there and defines the name, and nothing is found behind it
pub record SaysLast (file name : List ℕ) (rs : List Row) (i : ℕ) : Type 0 where
  pub below : i < length rs
  pub named : is_named file name (row_no rs i) ≡ true
  pub behind : last_named file name (drop (suc i) rs) ≡ None

module _ (file name : List ℕ) where
  pub none_more : (rs : List Row) (i : ℕ) → i < length rs → is_named file name (row_no rs i) ≡ false →
      last_named file name (drop (suc i) rs) ≡ None → last_named file name (drop i rs) ≡ None
  unfolding last_named later
  none_more rs i h n e = rw (drop-cons rs i (row_of 0 0 0 0) h, e, n)

  pub last-is : (rs : List Row) (i : ℕ) → i < length rs → is_named file name (row_no rs i) ≡ true →
      last_named file name (drop (suc i) rs) ≡ None → last_named file name rs ≡ Some i
  unfolding last_named later
  last-is [] i h n e = absurd (omega arith)
  last-is (r ∷ rs) zero h n e = rw (e, n)
  last-is (r ∷ rs) (suc i) h n e = rw (last-is rs i (omega arith) n e)

  pub last_says : (rs : List Row) (i : ℕ) → last_named file name rs ≡ Some i → SaysLast file name rs i
  unfolding last_named later
  last_says [] i e = row-nothing None i e refl
  last_says (r ∷ rs) i e = by (last_named file name rs) refl e (last_says rs)
    where
      first : (b : Bool) → is_named file name r ≡ b → last_named file name rs ≡ None → cond b (Some 0) None ≡ Some i →
          SaysLast file name (r ∷ rs) i
      first true t n e = rw (sym (row_one 0 i e)) (record { below = omega arith; named = t; behind = n })
      first false t n e = row-nothing None i e refl

      by : (f : Option ℕ) → last_named file name rs ≡ f → later f (is_named file name r) ≡ Some i →
          ((j : ℕ) → last_named file name rs ≡ Some j → SaysLast file name rs j) → SaysLast file name (r ∷ rs) i
      by (Some n) t e ih =
          let s = ih n t in
          rw (sym (row_one (suc n) i e)) (record { below = omega (arith, s.below); named = s.named; behind = s.behind })
      by None t e ih = first (is_named file name r) refl t e

  pub none_is : (rs : List Row) → ((j : ℕ) → j < length rs → is_named file name (row_no rs j) ≡ false) → last_named file name rs ≡ None
  unfolding last_named later
  none_is [] h = refl
  none_is (r ∷ rs) h = rw (none_is rs (λ j k. h (suc j) (omega arith)), h 0 (omega arith))

  pub none-says : (rs : List Row) → last_named file name rs ≡ None → (j : ℕ) → j < length rs → is_named file name (row_no rs j) ≡ false
  unfolding last_named
  none-says [] e j h = absurd (omega arith)
  none-says (r ∷ rs) e zero h = (later-nothing (last_named file name rs) (is_named file name r) e).1
  none-says (r ∷ rs) e (suc j) h = none-says rs (later-nothing (last_named file name rs) (is_named file name r) e).0 j (omega arith)

  -- ---- the rows from row `from` on

  module _ (rs : List Row) (from : ℕ) where
    onward : (i : ℕ) → from ≤ i → from + (i - from) ≡ i
    onward i h = omega arith

    part-row : (i : ℕ) → from ≤ i → row_no (drop from rs) (i - from) ≡ row_no rs i
    part-row i h = get_or-drop from rs (i - from) (row_of 0 0 0 0) ∙ ap (row_no rs) (onward i h)

    part-rest : (i : ℕ) → from ≤ i → drop (suc (i - from)) (drop from rs) ≡ drop (suc i) rs
    part-rest i h = drop-drop (suc (i - from)) from rs ∙ ap (λ (n : ℕ). drop n rs) (past i h)
      where
        past : (i : ℕ) → from ≤ i → from + suc (i - from) ≡ suc i
        past i h = omega arith

    pub from_is : (i : ℕ) → from ≤ i → i < length rs → is_named file name (row_no rs i) ≡ true →
        last_named file name (drop (suc i) rs) ≡ None → Some i ≡ last_from file name rs from
    from_is i h k n e =
        let inside : i - from < length (drop from rs) = omega (arith, length-drop from rs) in
        let l = last-is (drop from rs) (i - from) inside (rw (part-row i h) n) (rw (part-rest i h) e) in
        rw (l, onward i h)

    pub from-none : ((i : ℕ) → from ≤ i → SaysLast file name rs i → ⊥) → None ≡ last_from file name rs from
    from-none u = by (last_named file name (drop from rs)) refl
      where
        back : (k : ℕ) → from + k - from ≡ k
        back k = omega arith

        by : (f : Option ℕ) → last_named file name (drop from rs) ≡ f → None ≡ counted from f
        by (Some k) t =
            let s = last_says (drop from rs) k t in
            let h : from ≤ from + k = omega arith in
            let z = back k in
            absurd (u (from + k) h (record {
              below = omega (arith, length-drop from rs, s.below);
              named = rw (← part-row (from + k) h, z) s.named;
              behind = rw (← part-rest (from + k) h, z) s.behind;
            }))
        by None t = refl

  pub from_nothing : (rs : List Row) (i : ℕ) → None ≡ last_from file name rs i → last_named file name (drop i rs) ≡ None
  from_nothing rs i e = by (last_named file name (drop i rs)) e
    where
      by : (f : Option ℕ) → None ≡ counted i f → f ≡ None
      by (Some k) e = row-nothing None (i + k) e refl
      by None e = refl

  pub from_row : (rs : List Row) (i k : ℕ) → Some k ≡ last_from file name rs i → last_named file name (drop i rs) ≡ Some (k - i)
  from_row rs i k e = by (last_named file name (drop i rs)) e
    where
      by : (f : Option ℕ) → Some k ≡ counted i f → f ≡ Some (k - i)
      by (Some m) e = let z : k ≡ i + m = row_one k (i + m) e in ap Some (omega arith)
      by None e = row-nothing (Some k) k refl e

  pub from_first : (rs : List Row) → last_from file name rs 0 ≡ last_named file name rs
  from_first rs = by (last_named file name rs)
    where
      by : (f : Option ℕ) → counted 0 f ≡ f
      by (Some n) = ap Some (same n)
        where
          same : (n : ℕ) → 0 + n ≡ n
          same n = omega arith
      by None = refl
