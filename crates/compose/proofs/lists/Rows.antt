-- The rows of a list: by their places, as a search meets them, and in a list that rises.
--     row_of                 the row at a place, read off the list's numbers
--     count, row_next        how many numbers there are; the row at the next place
--     not-has, not-has-low   a row that a test tells from a letter and a mark does not have them; so one that comes before them
--     before_on              a row that comes before another comes before all that the other comes before
--     rises-rest, above      the rest of a list that rises; every row of what rises from a row comes behind that row
-- Assumes nothing.
use Prim.Native.Nat.{ℕ, suc, ◌+◌, ◌*◌}
use native.Mathlib.Omega.{arith}
use mathlib.Core.Path.{◌≡◌, refl, ap, subst⁻¹}
use mathlib.Core.Bool.{Bool, true, false, ◌&&◌}
use mathlib.Core.List.Memᴰ
use mathlib.Core.List.{List, [], ◌∷◌, Memᴰ}
use lib.Dec.{eqb}
use lib.ListN.{length, get_or}
use borrow.Author.Tests.{eqb-true}
use Rattle.text.proofs.general.Tests.{both_true, true-not-false}
use Rattle.search.specs.Halving.{before}
use Rattle.search.proofs.Search.{search}
use Rattle.compose.specs.Lookup.{Composite, numbers, has, comes_before, rises_from, rises}
use Rattle.compose.specs.Halving.{row_at}

-- ---- places

abbrev pub row_of : List Composite → ℕ → Composite
row_of rs k = row_at (numbers rs) k

pub count : (rs : List Composite) → length (numbers rs) ≡ length rs * 3
unfolding numbers
count [] = refl
count (r ∷ rs) = omega (arith, count rs)

pub row_next : (r : Composite) (rs : List Composite) (k : ℕ) → row_of (r ∷ rs) (suc k) ≡ row_of rs k
unfolding numbers
row_next r rs k =
    rw (shift (suc k * 3) (k * 3) (omega arith), shift (suc k * 3 + 1) (k * 3 + 1) (omega arith), shift (suc k * 3 + 2) (k * 3 + 2) (omega arith))
  where
    shift : (m n : ℕ) → m ≡ suc (suc (suc n)) → get_or (r.letter ∷ r.mark ∷ r.char ∷ numbers rs) m 0 ≡ get_or (numbers rs) n 0
    shift m n e = ap (λ (i : ℕ). get_or (r.letter ∷ r.mark ∷ r.char ∷ numbers rs) i 0) e

-- ---- order

pub not-has : (test : ℕ → ℕ → Bool) (r : Composite) (l m : ℕ) → test r.letter r.mark ≡ true → test l m ≡ false → has r l m ≡ false
not-has test r l m p q = by (eqb r.letter l) (eqb r.mark m) refl refl
  where
    by : (x y : Bool) → eqb r.letter l ≡ x → eqb r.mark m ≡ y → (x && y) ≡ false
    by true true a b = true-not-false (test l m) (rw (eqb-true r.letter l a, eqb-true r.mark m b) at p) q
    by true false a b = refl
    by false y a b = refl

pub not-has-low : (r : Composite) (l m : ℕ) → comes_before r l m ≡ true → has r l m ≡ false
not-has-low r l m e = not-has (λ a b. before a b l m) r l m e (search.irreflexive l m)

pub before_on : (p r : Composite) (l m : ℕ) → comes_before p r.letter r.mark ≡ true → comes_before r l m ≡ true → comes_before p l m ≡ true
before_on p r l m = search.transitive p.letter p.mark r.letter r.mark l m

pub rises-rest : (r : Composite) (rs : List Composite) → rises (r ∷ rs) ≡ true → rises rs ≡ true
unfolding rises rises_from
rises-rest r [] e = refl
rises-rest r (s ∷ rs) e = (both_true (comes_before r s.letter s.mark) (rises_from s rs) e).1

pub above : (p : Composite) (rs : List Composite) → rises_from p rs ≡ true → (s : Composite) → Memᴰ s rs → comes_before p s.letter s.mark ≡ true
unfolding rises_from
above p [] e s h = absurd (Memᴰ.not-nil h)
above p (r ∷ rs) e s (Memᴰ.head q) =
    subst⁻¹ (λ (s : Composite). comes_before p s.letter s.mark ≡ true) q (both_true _ (rises_from r rs) e).0
above p (r ∷ rs) e s (Memᴰ.tail d) =
    let x = both_true (comes_before p r.letter r.mark) (rises_from r rs) e in
    before_on p r s.letter s.mark x.0 (above r rs x.1 s d)
