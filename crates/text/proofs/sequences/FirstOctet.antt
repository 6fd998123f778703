-- What the first octet decides about the sequence that a text begins with.
--     ones, none, some                `sequence_length`: the number of leading ones, and one where there is none
--     width-first                     the width of a text, by the one alternative that its first octet begins
--     width-ascii, .. width-broken    the width at a place, by what the code has found there
--     width_two, width_three          the width of most sequences of two and three octets, by comparisons alone
-- Assumes nothing.
use mathlib.Core.Path.{◌≡◌, refl, sym, ap, ◌∙◌, subst}
use mathlib.Core.Bool.{Bool, true, false, cond, ◌&&◌, ◌||◌, and-true, and-false, and_assoc}
use mathlib.Core.List.{List, [], ◌∷◌}
use Prim.Native.Nat.{ℕ, zero, suc, ◌+◌, ◌-◌, ◌<◌, ◌≤◌}
use native.Mathlib.Omega.{arith}
use native.Mathlib.Nat.{not-suc-le-zero}
use native.Mathlib.Numerals.{add-one}
use lib.ListN.{length, get_or, drop, replicate, length-replicate, length-drop, drop_of_length-le}
use lib.Seq.{drop-cons}
use lib.Dec.{T, eqb, eqb→eq, leb, leb→le, ltb}
use borrow.Author.Tests.{lt-ltb, le-ltb, lt-leb}
use lib.Count.{count_leading_zeros}
use Rattle.text.specs.Range.{Range, ◌–◌, within}
use Rattle.text.specs.Utf8.{tail, alternatives, begins, width_by, width, leading_ones, or_one, sequence_length}
use Rattle.text.specs.Inner.{seconds, goes_second}
use Rattle.text.proofs.general.Below.{below, each}
use Rattle.text.proofs.general.Tests.{within-true}
use Rattle.text.proofs.general.Places.{drop-next, drop_more}

-- ---- leading ones

pub ones : (b : ℕ) → b < 256 → or_one (count_leading_zeros 8 (255 - b)) ≡ sequence_length b
unfolding count_leading_zeros leading_ones sequence_length
ones b h =
    eqb→eq (or_one (count_leading_zeros 8 (255 - b))) (sequence_length b)
    (each (λ n. eqb (or_one (count_leading_zeros 8 (255 - n))) (sequence_length n)) 256 tt b h)

-- the two ways of the code: where there is no leading one the length is one, and otherwise it is their number
pub none : {n s : ℕ} → or_one n ≡ s → n ≡ 0 → 1 ≡ s
none {n} {s} e z = subst (λ (m : ℕ). or_one m ≡ s) z e

pub some : {n s : ℕ} → or_one n ≡ s → (n ≡ 0 → ⊥) → n ≡ s
some {n = zero} e z = absurd (z refl)
some {n = suc n} e z = e

-- ---- the alternatives whose first range has the octet a, without that range

rests : ℕ → List (List Range) → List (List Range)
rests a [] = []
rests a ([] ∷ others) = []
rests a ((r ∷ rs) ∷ others) = cond (within r a) (rs ∷ rests a others) (rests a others)

rest_width : List (List Range) → List ℕ → ℕ
rest_width [] s = 0
rest_width (rs ∷ others) s = cond (begins rs s) (suc (length rs)) (rest_width others s)

width-rests : (choices : List (List Range)) (a : ℕ) (s : List ℕ) → width_by choices (a ∷ s) ≡ rest_width (rests a choices) s
unfolding width_by begins rests rest_width
width-rests [] a s = refl
width-rests ([] ∷ others) a s = refl
width-rests ((r ∷ rs) ∷ others) a s = go (within r a) (begins rs s) refl (width-rests others a s)
  where
    go : (t u : Bool) → begins rs s ≡ u → width_by others (a ∷ s) ≡ rest_width (rests a others) s →
        cond (t && u) (suc (length rs)) (width_by others (a ∷ s)) ≡ rest_width (cond t (rs ∷ rests a others) (rests a others)) s
    go true true q e = rw q
    go true false q e = rw q e
    go false u q e = e

-- ---- an octet begins at most one alternative

eq_range : Range → Range → Bool
eq_range p q = eqb p.first q.first && eqb p.last q.last

eq_ranges : List Range → List Range → Bool
eq_ranges [] [] = true
eq_ranges [] (q ∷ qs) = false
eq_ranges (p ∷ ps) [] = false
eq_ranges (p ∷ ps) (q ∷ qs) = eq_range p q && eq_ranges ps qs

eq_choices : List (List Range) → List (List Range) → Bool
eq_choices [] [] = true
eq_choices [] (q ∷ qs) = false
eq_choices (p ∷ ps) [] = false
eq_choices (p ∷ ps) (q ∷ qs) = eq_ranges p q && eq_choices ps qs

-- what follows the octet a: it begins no sequence; or nothing follows; or a second octet and tails
pub first : ℕ → List (List Range)
first a =
    cond (ltb a 0x80) ([] ∷ [])
    (cond (ltb a 0xC2 || ltb 0xF4 a) [] ((seconds a ∷ replicate (sequence_length a - 2) tail) ∷ []))

abbrev right : ℕ → Bool
right a = eq_choices (rests a alternatives) (first a)

right-all : T (below right 256)
unfolding rests first seconds sequence_length leading_ones alternatives eq_choices eq_ranges eq_range
right-all = tt

and_left : (a b : Bool) → T (a && b) → T a
and_left true b t = tt
and_left false b t = absurd t

and_right : (a b : Bool) → T (a && b) → T b
and_right true b t = t
and_right false b t = absurd t

ranges-eq : (ps qs : List Range) → T (eq_ranges ps qs) → ps ≡ qs
unfolding eq_ranges eq_range
ranges-eq [] [] t = refl
ranges-eq [] (q ∷ qs) t = absurd t
ranges-eq (p ∷ ps) [] t = absurd t
ranges-eq (p ∷ ps) (q ∷ qs) t =
    let h = and_left (eq_range p q) (eq_ranges ps qs) t in
    let a = eqb→eq p.first q.first (and_left (eqb p.first q.first) (eqb p.last q.last) h) in
    let b = eqb→eq p.last q.last (and_right (eqb p.first q.first) (eqb p.last q.last) h) in
    let e : p ≡ q = ap (λ (x : ℕ). x – p.last) a ∙ ap (λ (x : ℕ). q.first – x) b in
    ap (λ (r : Range). r ∷ ps) e ∙ ap (λ (l : List Range). q ∷ l) (ranges-eq ps qs (and_right (eq_range p q) (eq_ranges ps qs) t))

choices-eq : (ps qs : List (List Range)) → T (eq_choices ps qs) → ps ≡ qs
unfolding eq_choices
choices-eq [] [] t = refl
choices-eq [] (q ∷ qs) t = absurd t
choices-eq (p ∷ ps) [] t = absurd t
choices-eq (p ∷ ps) (q ∷ qs) t =
    ap (λ (r : List Range). r ∷ ps) (ranges-eq p q (and_left (eq_ranges p q) (eq_choices ps qs) t))
    ∙ ap (λ (l : List (List Range)). q ∷ l) (choices-eq ps qs (and_right (eq_ranges p q) (eq_choices ps qs) t))

width-first : (a : ℕ) (s : List ℕ) → a < 256 → width (a ∷ s) ≡ rest_width (first a) s
width-first a s h =
    width-rests alternatives a s ∙ ap (λ (l : List (List Range)). rest_width l s) (choices-eq (rests a alternatives) (first a) (each right 256 right-all a h))

abbrev ranged : ℕ → Bool
ranged a = ltb a 0x80 || (ltb a 0xC2 || ltb 0xF4 a) || (leb 2 (sequence_length a) && leb (sequence_length a) 4)

ranged-all : T (below ranged 256)
unfolding sequence_length leading_ones
ranged-all = tt

range : (a : ℕ) → a < 256 → 0x80 ≤ a → (ltb a 0xC2 || ltb 0xF4 a) ≡ false → (2 ≤ sequence_length a) × (sequence_length a ≤ 4)
range a h high leads =
    let t : T (leb 2 (sequence_length a) && leb (sequence_length a) 4) =
    rw (le-ltb a 0x80 high, leads) at (each ranged 256 ranged-all a h) in
    (leb→le _ _ (and_left (leb 2 (sequence_length a)) (leb (sequence_length a) 4) t), leb→le _ _ (and_right (leb 2 (sequence_length a)) (leb (sequence_length a) 4) t))

-- ---- at a place

begins-at : (r : Range) (rs : List Range) (s : List ℕ) (i : ℕ) → i < length s →
    begins (r ∷ rs) (drop i s) ≡ (within r (get_or s i 0) && begins rs (drop (i + 1) s))
unfolding begins
begins-at r rs s i h = rw (drop-cons s i 0 h, add-one i)

begins-short : (rs : List Range) (s : List ℕ) → length s < length rs → begins rs s ≡ false
unfolding begins
begins-short [] s h = absurd (not-suc-le-zero h)
begins-short (r ∷ rs) [] h = refl
begins-short (r ∷ rs) (b ∷ s) h = rw (begins-short rs s (omega arith)) (no (within r b))
  where
    no : (t : Bool) → (t && false) ≡ false
    no true = refl
    no false = refl

step : (s : List ℕ) (i k j : ℕ) → k + 1 ≡ j → drop (i + k + 1) s ≡ drop (i + j) s
step s i k j e = ap (λ (n : ℕ). drop n s) (same e)
  where
    same : k + 1 ≡ j → i + k + 1 ≡ i + j
    same e = omega arith

-- the second octet and the tails, as the code asks for them one by one
module _ (s : List ℕ) (i a n : ℕ) {x : Bool} (room : i + n ≤ length s) (second : x ≡ goes_second a (get_or s (i + 1) 0)) where
  pub on-two : n ≡ 2 → x ≡ begins (seconds a ∷ replicate (n - 2) tail) (drop (i + 1) s)
  unfolding begins goes_second
  on-two e =
      second
      ∙ sym (rw (e, begins-at (seconds a) [] s (i + 1) (omega arith)) (and-true (within (seconds a) (get_or s (i + 1) 0))))

  module _ {y : Bool} (third : y ≡ within tail (get_or s (i + 2) 0)) where
    pub on-three : n ≡ 3 → (x && y) ≡ begins (seconds a ∷ replicate (n - 2) tail) (drop (i + 1) s)
    unfolding begins goes_second
    on-three e =
        rw (second, third, e) (rw (begins-at (seconds a) (tail ∷ []) s (i + 1) (omega arith), step s i 1 2 refl)
        (rw (begins-at tail [] s (i + 2) (omega arith), and-true (within tail (get_or s (i + 2) 0)))))

    pub on-four : (n ≡ 2 → ⊥) → (n ≡ 3 → ⊥) → 2 ≤ n → n ≤ 4 → {z : Bool} → z ≡ within tail (get_or s (i + 3) 0) →
        (x && y && z) ≡ begins (seconds a ∷ replicate (n - 2) tail) (drop (i + 1) s)
    unfolding begins goes_second
    on-four p q l h fourth =
        let e : n ≡ 4 = omega arith in
        rw (second, third, fourth, e) (rw (begins-at (seconds a) (tail ∷ tail ∷ []) s (i + 1) (omega arith), step s i 1 2 refl)
        (rw (begins-at tail (tail ∷ []) s (i + 2) (omega arith), step s i 2 3 refl)
        (rw (begins-at tail [] s (i + 3) (omega arith), and-true (within tail (get_or s (i + 3) 0)))
        (and_assoc (within (seconds a) (get_or s (i + 1) 0)) (within tail (get_or s (i + 2) 0)) (within tail (get_or s (i + 3) 0))))))

pub width-end : (s : List ℕ) (i : ℕ) → length s ≤ i → width (drop i s) ≡ 0
unfolding alternatives width_by begins
width-end s i h = rw (drop_of_length-le s h)

module _ (s : List ℕ) (i : ℕ) (inside : i < length s) (octet : get_or s i 0 < 256) where
  width-at : width (drop i s) ≡ rest_width (first (get_or s i 0)) (drop (i + 1) s)
  width-at = rw (drop-cons s i 0 inside, add-one i) (width-first (get_or s i 0) (drop (suc i) s) octet)

  pub width-ascii : get_or s i 0 < 0x80 → width (drop i s) ≡ 1
  unfolding first rest_width begins
  width-ascii h = width-at ∙ rw (lt-ltb _ _ h)

  pub width-none : 0x80 ≤ get_or s i 0 → (ltb (get_or s i 0) 0xC2 || ltb 0xF4 (get_or s i 0)) ≡ true → width (drop i s) ≡ 0
  unfolding first rest_width
  width-none h t = width-at ∙ rw (le-ltb _ _ h, t)

  -- an octet that begins a sequence of n octets, two at least
  module _ (high : 0x80 ≤ get_or s i 0) (leads : (ltb (get_or s i 0) 0xC2 || ltb 0xF4 (get_or s i 0)) ≡ false) (n : ℕ) (length-is : n ≡ sequence_length (get_or s i 0)) where
    pub length-range : (2 ≤ n) × (n ≤ 4)
    length-range = subst (λ (m : ℕ). (2 ≤ m) × (m ≤ 4)) (sym length-is) (range (get_or s i 0) octet high leads)

    width-long : width (drop i s) ≡ cond (begins (seconds (get_or s i 0) ∷ replicate (n - 2) tail) (drop (i + 1) s)) n 0
    unfolding first rest_width
    width-long =
        width-at
        ∙ rw (le-ltb _ _ high, leads, ← length-is, length-replicate (n - 2) tail)
        (ap (λ (m : ℕ). cond (begins (seconds (get_or s i 0) ∷ replicate (n - 2) tail) (drop (i + 1) s)) m 0) (omega (arith, length-range)))

    pub width-short : length s - i < n → width (drop i s) ≡ 0
    width-short h =
        width-long
        ∙ rw (begins-short (seconds (get_or s i 0) ∷ replicate (n - 2) tail) (drop (i + 1) s)
        (omega (arith, length-range, length-replicate (n - 2) tail, length-drop (i + 1) s)))

    module _ {t : Bool} (e : t ≡ begins (seconds (get_or s i 0) ∷ replicate (n - 2) tail) (drop (i + 1) s)) where
      pub width-whole : t ≡ true → width (drop i s) ≡ n
      width-whole h = width-long ∙ rw (sym e ∙ h)

      pub width-broken : t ≡ false → width (drop i s) ≡ 0
      width-broken h = width-long ∙ rw (sym e ∙ h)

-- ---- sequences whose second octet may be any tail

above : (a e b : ℕ) → e < b → within (a – e) b ≡ false
above a e b h = rw (lt-leb b e h) (and-false (leb a b))

module _ (s : List ℕ) (i : ℕ) where
  -- [RFC3629:4] UTF8-2
  pub width_two : i + 2 ≤ length s → within (0xC2 – 0xDF) (get_or s i 0) ≡ true → within tail (get_or s (i + 1) 0) ≡ true → width (drop i s) ≡ 2
  unfolding width_by begins alternatives
  width_two h t u =
      let b = within-true (0xC2 – 0xDF) (get_or s i 0) t in
      rw (drop-next s i (omega arith), drop_more s i 1 2 (omega arith) refl, above 0x00 0x7F (get_or s i 0) (omega arith), t, u)

  -- [RFC3629:4] the second alternative of UTF8-3
  pub width_three : i + 3 ≤ length s → within (0xE1 – 0xEC) (get_or s i 0) ≡ true → within tail (get_or s (i + 1) 0) ≡ true →
      within tail (get_or s (i + 2) 0) ≡ true → width (drop i s) ≡ 3
  unfolding width_by begins alternatives
  width_three h t u v =
      let b = within-true (0xE1 – 0xEC) (get_or s i 0) t in
      rw (drop-next s i (omega arith), drop_more s i 1 2 (omega arith) refl, drop_more s i 2 3 (omega arith) refl)
      (rw (above 0x00 0x7F (get_or s i 0) (omega arith), above 0xC2 0xDF (get_or s i 0) (omega arith), above 0xE0 0xE0 (get_or s i 0) (omega arith))
      (rw (t, u, v)))
