-- The grammar of `Utf8` and the sequence that a text begins with. The first octet tells the alternatives apart.
--     in_within                           an octet that lies in a range passes the range's test
--     Match, Any                          octets that match the ranges of one alternative; or of one among several
--     any_of, of-any                      what passes `one_of` matches one of the alternatives, and what matches one passes
--     char-by                             what matches the alternative number k is a sequence
--     width-char                          the first `width u` octets of a text u are a sequence
--     char-width                          the width of a text that begins with a sequence is the length of that sequence
-- Assumes nothing.
use Prim.Native.Nat.{ℕ, zero, suc, ◌≤◌, ◌<◌}
use mathlib.Core.Path.{◌≡◌, refl, ap}
use mathlib.Core.Bool.{Bool, true, false, cond, ◌&&◌, ◌||◌, or-true, and-false}
use mathlib.Core.List.{List, [], ◌∷◌, ◌++◌}
use native.Mathlib.Omega.{arith}
use lib.ListN.{length, get_or, take}
use lib.Dec.{leb, eqb}
use borrow.Author.Tests.{leb-true, le-leb, lt-leb, eqb-true, eq-eqb}
use Rattle.text.proofs.general.Tests.{both_true, within-true}
use Rattle.text.specs.Range.{Range, within}
use Rattle.text.specs.Utf8.{alternatives, begins, one_of, is_char, width_by, width}

pub in_within : (r : Range) (b : ℕ) → r.first ≤ b → b ≤ r.last → within r b ≡ true
in_within r b l h = rw (le-leb r.first b l, le-leb b r.last h)

-- as many octets as ranges, each in its range
pub data Match : List Range → List ℕ → Type 0 where
  end : Match [] []
  on : {r : Range} {rs : List Range} {b : ℕ} {s : List ℕ} → r.first ≤ b → b ≤ r.last → Match rs s → Match (r ∷ rs) (b ∷ s)

-- the octets match one of the alternatives
pub data Any : List (List Range) → List ℕ → Type 0 where
  here : {a : List Range} {others : List (List Range)} {w : List ℕ} → Match a w → Any (a ∷ others) w
  there : {a : List Range} {others : List (List Range)} {w : List ℕ} → Any others w → Any (a ∷ others) w

match-of : (a : List Range) (w : List ℕ) → begins a w ≡ true → length a ≡ length w → Match a w
unfolding begins
match-of [] [] e n = end
match-of [] (b ∷ w) e n = absurd (omega arith)
match-of (r ∷ rs) [] e n = absurd (omega arith)
match-of (r ∷ rs) (b ∷ w) e n =
    let h = both_true (within r b) (begins rs w) e in
    let k = within-true r b h.0 in on k.0 k.1 (match-of rs w h.1 (omega arith))

of-match : {a : List Range} {w : List ℕ} → Match a w → (begins a w ≡ true) × (length a ≡ length w)
unfolding begins
of-match end = (refl, refl)
of-match (on {r} {rs} {b} {s} l h m) = let k = of-match m in (rw (in_within r b l h, k.0), ap suc k.1)

module _ (a : List Range) (others : List (List Range)) (w : List ℕ) (ih : one_of others w ≡ true → Any others w) where
  any_step : (x y : Bool) → begins a w ≡ x → eqb (length a) (length w) ≡ y → ((x && y) || one_of others w) ≡ true → Any (a ∷ others) w
  any_step true true p q e = here (match-of a w p (eqb-true _ _ q))
  any_step true false p q e = there (ih e)
  any_step false y p q e = there (ih e)

pub any_of : (alts : List (List Range)) (w : List ℕ) → one_of alts w ≡ true → Any alts w
unfolding one_of
any_of [] w e = let z : ◌≡◌ {A = ℕ} 0 1 = cc in absurd (omega arith)
any_of (a ∷ others) w e = any_step a others w (any_of others w) (begins a w) (eqb (length a) (length w)) refl refl e

pub of-any : {alts : List (List Range)} {w : List ℕ} → Any alts w → one_of alts w ≡ true
unfolding one_of
of-any {w = w} (here {a} m) = let k = of-match m in rw (k.0, eq-eqb (length a) (length w) k.1)
of-any (there {a} {others} {w} m) = rw (of-any m) (or-true (begins a w && eqb (length a) (length w)))

any_at : (alts : List (List Range)) (k : ℕ) (w : List ℕ) → k < length alts → Match (get_or alts k []) w → Any alts w
any_at [] k w h m = absurd (omega arith)
any_at (a ∷ others) zero w h m = here m
any_at (a ∷ others) (suc k) w h m = there (any_at others k w (omega arith) m)

pub char-by : (k : ℕ) (w : List ℕ) → k < length alternatives → Match (get_or alternatives k []) w → is_char w ≡ true
char-by k w h m = of-any (any_at alternatives k w h m)

-- ---- the width

begins-take : (a : List Range) (u : List ℕ) → begins a u ≡ true → Match a (take (length a) u) × (length a ≤ length u)
unfolding begins
begins-take [] u e = (end, omega arith)
begins-take (r ∷ rs) [] e = let z : ◌≡◌ {A = ℕ} 0 1 = cc in absurd (omega arith)
begins-take (r ∷ rs) (b ∷ u) e =
    let h = both_true (within r b) (begins rs u) e in
    let k = within-true r b h.0 in
    let ih = begins-take rs u h.1 in (on k.0 k.1 ih.0, omega arith)

-- the first n octets of u are a sequence of one of the alternatives
abbrev FirstOctets : List (List Range) → List ℕ → ℕ → Type 0
FirstOctets alts u n = Any alts (take n u) × (n ≤ length u)

first_step : (a : List Range) (others : List (List Range)) (u : List ℕ) (n : ℕ) → (0 < n → FirstOctets others u n) → (x : Bool) → begins a u ≡ x →
    0 < cond x (length a) n → FirstOctets (a ∷ others) u (cond x (length a) n)
first_step a others u n ih true e h = let k = begins-take a u e in (here k.0, k.1)
first_step a others u n ih false e h = let k = ih h in (there k.0, k.1)

width_by-first : (alts : List (List Range)) (u : List ℕ) → 0 < width_by alts u → FirstOctets alts u (width_by alts u)
unfolding width_by
width_by-first [] u h = absurd (omega arith)
width_by-first (a ∷ others) u h = first_step a others u (width_by others u) (width_by-first others u) (begins a u) refl h

pub width-char : (u : List ℕ) → 0 < width u → (is_char (take (width u) u) ≡ true) × (width u ≤ length u)
width-char u h = let k = width_by-first alternatives u h in (of-any k.0, k.1)

-- ---- the first octet tells the alternatives apart

-- the first ranges rise: the first of them begins at n or above, and each other one above the end of the one before
data FirstRising : ℕ → List (List Range) → Type 0 where
  last : {n : ℕ} → FirstRising n []
  step : {n : ℕ} {r : Range} {rs : List Range} {others : List (List Range)} → n ≤ r.first → n ≤ r.last → FirstRising (suc r.last) others →
      FirstRising n ((r ∷ rs) ∷ others)

abbrev rising : ℕ → List (List Range) → Bool
rising n [] = true
rising n ([] ∷ others) = false
rising n ((r ∷ rs) ∷ others) = leb n r.first && leb n r.last && rising (suc r.last) others

rises : (n : ℕ) (alts : List (List Range)) → rising n alts ≡ true → FirstRising n alts
rises n [] e = last
rises n ([] ∷ others) e = let z : ◌≡◌ {A = ℕ} 0 1 = cc in absurd (omega arith)
rises n ((r ∷ rs) ∷ others) e =
    let h = both_true (leb n r.first && leb n r.last) (rising (suc r.last) others) e in
    let k = both_true (leb n r.first) (leb n r.last) h.0 in
    step (leb-true _ _ k.0) (leb-true _ _ k.1) (rises (suc r.last) others h.1)

-- the list has a first octet, which is n or more
data From (n : ℕ) : List ℕ → Type 0 where
  from : {b : ℕ} {s : List ℕ} → n ≤ b → From n (b ∷ s)

from_less : {n m : ℕ} {w : List ℕ} → m ≤ n → From n w → From m w
from_less h (from {b} l) = from {b = b} (omega arith)

rising-from : {n : ℕ} {alts : List (List Range)} {w : List ℕ} → FirstRising n alts → Any alts w → From n w
rising-from (step f l r) (here (on {b = b} p q m)) = from {b = b} (omega arith)
rising-from (step f l r) (there m) = from_less (omega arith) (rising-from r m)
rising-from {w = w} (last {n = n}) x4 = elim x4 [ ]

match-begins : {a : List Range} {w : List ℕ} (t : List ℕ) → Match a w → begins a (w ++ t) ≡ true
unfolding begins
match-begins t end = refl
match-begins t (on {r} {rs} {b} {s} l h m) = rw (in_within r b l h, match-begins t m)

begins-other : (r : Range) (rs : List Range) {w : List ℕ} (t : List ℕ) → From (suc r.last) w → begins (r ∷ rs) (w ++ t) ≡ false
unfolding begins
begins-other r rs t (from {b} h) = rw (lt-leb b r.last h, and-false (leb r.first b))

width_by-of : {n : ℕ} {alts : List (List Range)} {w : List ℕ} (t : List ℕ) → FirstRising n alts → Any alts w → width_by alts (w ++ t) ≡ length w
unfolding width_by
width_by-of t r (here m) = rw (match-begins t m) (of-match m).1
width_by-of t (step {r = r} {rs = rs} f l k) (there m) = rw (begins-other r rs t (rising-from k m)) (width_by-of t k m)

pub char-width : (w t : List ℕ) → is_char w ≡ true → width (w ++ t) ≡ length w
unfolding alternatives
char-width w t e = width_by-of t (rises 0 alternatives refl) (any_of alternatives w e)
