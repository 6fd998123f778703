-- The search by halving. First the ways of `find`, on any numbers t: k is the place that the search finds.
--     no_row                 there is no row k
--     its-row, other_row     row k has the letter and mark, or others
-- Then its answer on the numbers of a list that rises.
--     by-halving             the search is `lookup` in the list
-- Assumes nothing.
use Rattle.std.specs.Prelude.{Some, None}
use Prim.Native.Nat.{ℕ, zero, suc, ◌/◌, ◌≤◌, ◌<◌}
use native.Mathlib.Omega.{arith}
use mathlib.Core.Path.{◌≡◌, refl, ap, subst⁻¹}
use mathlib.Core.Bool.{Bool, true, false, cond}
use mathlib.Core.List.{List, [], ◌∷◌}
use lib.Dec.{ltb, leb-suc-suc}
use lib.ListN.{length}
use borrow.Author.Tests.{lt-ltb, le-ltb}
use Rattle.text.proofs.general.Tests.{both_true, true-not-false}
use Rattle.search.specs.Halving.{before, is_low, place_of}
use Rattle.search.proofs.Search.{search}
use Rattle.compose.specs.Lookup.{Composite, numbers, has, lookup, comes_before, rises_from, rises}
use Rattle.compose.specs.Halving.{row_at, look, look_at, halved}
use Rattle.compose.proofs.lists.Rows.{row_of, count, row_next, not-has, not-has-low, before_on, rises-rest}

module _ (t : List ℕ) (l m k : ℕ) (e : k ≡ place_of 3 t l m) where
  looked : look_at t l m k ≡ halved t l m
  unfolding halved
  looked = ap (look_at t l m) e

  pub no_row : length t / 3 ≤ k → None ≡ halved t l m
  no_row h = rw (le-ltb k (length t / 3) h) at looked

  pub its-row : k < length t / 3 → has (row_at t k) l m ≡ true → Some (row_at t k).char ≡ halved t l m
  its-row h f = rw (lt-ltb k (length t / 3) h, f) at looked

  pub other_row : k < length t / 3 → has (row_at t k) l m ≡ false → None ≡ halved t l m
  other_row h f = rw (lt-ltb k (length t / 3) h, f) at looked

module _ (l m : ℕ) where
  -- ---- a row that does not come before the letter and mark, and what rises from it

  late : (p r : Composite) → comes_before p r.letter r.mark ≡ true → comes_before p l m ≡ false → comes_before r l m ≡ false
  late p r o e = by (comes_before r l m) refl
    where
      by : (x : Bool) → comes_before r l m ≡ x → x ≡ false
      by true f = true-not-false (comes_before p l m) (before_on p r l m o f) e
      by false f = refl

  all-late : (p : Composite) (rs : List Composite) → rises_from p rs ≡ true → comes_before p l m ≡ false → (k : ℕ) → k < length (p ∷ rs) →
      comes_before (row_of (p ∷ rs) k) l m ≡ false
  unfolding rises_from numbers
  all-late p [] e f zero h = f
  all-late p [] e f (suc k) h = absurd (omega arith)
  all-late p (r ∷ rs) e f zero h = f
  all-late p (r ∷ rs) e f (suc k) h =
      let x = both_true (comes_before p r.letter r.mark) (rises_from r rs) e in
      subst⁻¹ (λ (s : Composite). comes_before s l m ≡ false) (row_next p (r ∷ rs) k) (all-late r rs x.1 (late p r x.0 f) k (omega arith))

  none-late : (p : Composite) (rs : List Composite) → rises_from p rs ≡ true → comes_before p l m ≡ false → lookup rs l m ≡ None
  unfolding rises_from lookup
  none-late p [] e f = refl
  none-late p (r ∷ rs) e f =
      let x = both_true (comes_before p r.letter r.mark) (rises_from r rs) e in
      rw (not-has (λ a b. before p.letter p.mark a b) r l m x.0 f) (none-late r rs x.1 (late p r x.0 f))

  -- ---- a list that rises

  -- the rows before the place `at` come before the letter and mark, and the others do not; so a look at that row answers for the list
  record Split (rs : List Composite) : Type 0 where
    at : ℕ
    inside : at ≤ length rs
    low : (k : ℕ) → k < at → comes_before (row_of rs k) l m ≡ true
    high : (k : ℕ) → at ≤ k → k < length rs → comes_before (row_of rs k) l m ≡ false
    answer : cond (ltb at (length rs)) (look (row_of rs at) l m) None ≡ lookup rs l m

  split : (rs : List Composite) → rises rs ≡ true → Split rs
  unfolding lookup numbers rises
  split [] e = record { at = 0; inside = omega arith; low = λ k h. absurd (omega arith); high = λ k h g. absurd (omega arith); answer = refl }
  split (r ∷ rs) e = by (comes_before r l m) refl (split rs (rises-rest r rs e))
    where
      low : (s : Split rs) → comes_before r l m ≡ true → (k : ℕ) → k < suc s.at → comes_before (row_of (r ∷ rs) k) l m ≡ true
      low s f zero h = f
      low s f (suc k) h = subst⁻¹ (λ (q : Composite). comes_before q l m ≡ true) (row_next r rs k) (s.low k (omega arith))

      high : (s : Split rs) (k : ℕ) → suc s.at ≤ k → k < length (r ∷ rs) → comes_before (row_of (r ∷ rs) k) l m ≡ false
      high s zero h g = absurd (omega arith)
      high s (suc k) h g = subst⁻¹ (λ (q : Composite). comes_before q l m ≡ false) (row_next r rs k) (s.high k (omega arith) (omega arith))

      by : (x : Bool) → comes_before r l m ≡ x → Split rs → Split (r ∷ rs)
      by true f s = record {
        at = suc s.at;
        inside = omega (arith, s.inside);
        low = low s f;
        high = high s;
        answer =
            subst⁻¹ (λ (q : Composite). cond (ltb (suc s.at) (suc (length rs))) (look q l m) None ≡ lookup (r ∷ rs) l m) (row_next r rs s.at)
            (rw (leb-suc-suc (suc s.at) (length rs), not-has-low r l m f) s.answer);
      }
      by false f s = record {
        at = 0;
        inside = omega arith;
        low = λ k h. absurd (omega arith);
        high = λ k h g. all-late r rs e f k g;
        answer = rw (lt-ltb 0 (suc (length rs)) (omega arith), none-late r rs e f);
      }

  pub by-halving : (rs : List Composite) → rises rs ≡ true → halved (numbers rs) l m ≡ lookup rs l m
  unfolding halved place_of
  by-halving rs e =
      let s = split rs e in
      let n : length (numbers rs) / 3 ≡ length rs = omega (arith, count rs) in
      rw (n, search.finds (is_low 3 (numbers rs) l m) (length rs) s.at s.inside s.low s.high) s.answer
