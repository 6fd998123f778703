-- What a row that is right keeps to, and the rows of a list by their places, as a search meets them.
--     Sound, sound         a row that is right, in numbers
--     scalar-most          scalar values are at most 10FFFF
--     Covered, covered     a row has a character, in numbers
--     row_at               the row at a place, read off the list's numbers
--     row_of, taken        the row of six numbers; those that are taken from a place on are the row there
--     count, row_next      how many numbers there are; the row at the next place
--     sound-at             each row of a list that keeps the rule is right
-- Assumes nothing.
use Rattle.std.proofs.Common.{ℕ, zero, suc, ◌+◌, ◌-◌, ◌*◌, ◌%◌, ◌≤◌, ◌<◌, arith, ◌≡◌, refl, sym, ap, ◌∙◌, Bool, true, not, ◌&&◌, ◌||◌, List, [], ◌∷◌, ltb, leb, eqb}
use Rattle.std.proofs.Common.{length, get_or, take, drop, ltb-true, leb-true, le-ltb, eqb-true}
use mathlib.Core.Path.{subst⁻¹}
use Rattle.std.proofs.lemmas.List.{get_or-take, get_or-drop}
use Rattle.text.proofs.general.Tests.{both_true}
use Rattle.text.specs.Every.{every}
use Rattle.text.specs.Utf8.{is_scalar, octets, utf8_of}
use Rattle.casing.specs.Mapping.{Stride, ◌to◌by◌is◌then◌then◌, image_of, covers, numbers, are_scalar, top, is_short, is_right}

pub record Sound (r : Stride) : Type 0 where
  pub forward : r.first ≤ r.last
  pub going : 0 < r.step
  pub scalars : are_scalar r.one (top r) ≡ true
  pub second : is_scalar r.two ≡ true
  pub third : is_scalar r.three ≡ true
  pub short : length (utf8_of (image_of (top r) r.two r.three)) ≤ 3 * length (octets r.first)
  pub none : r.two ≡ 0 → r.three ≡ 0

-- no third character without a second
none_of : (b c : ℕ) (x : Bool) → (ltb 0 b || (eqb c 0 && x)) ≡ true → b ≡ 0 → c ≡ 0
none_of b c x e q = eqb-true c 0 (both_true (eqb c 0) x (sym (rw (le-ltb 0 b (omega arith)) refl) ∙ e)).0

pub sound : (r : Stride) → is_right r ≡ true → Sound r
sound r e =
    let a = both_true (leb r.first r.last) _ e in
    let b = both_true (ltb 0 r.step) _ a.1 in
    let c = both_true (eqb ((r.last - r.first) % r.step) 0) _ b.1 in
    let d = both_true (are_scalar r.first r.last) _ c.1 in
    let f = both_true (are_scalar r.one (top r)) _ d.1 in
    let g = both_true (is_scalar r.two) _ f.1 in
    let h = both_true (is_scalar r.three) _ g.1 in
    let i = both_true (is_short r) _ h.1 in
    record {
      forward = leb-true _ _ a.0;
      going = ltb-true _ _ b.0;
      scalars = f.0;
      second = g.0;
      third = h.0;
      short = leb-true _ _ i.0;
      none = none_of r.two r.three (not (eqb r.one r.first)) i.1;
    }

-- from a to b there is no character behind the last one
pub scalar-most : (a b : ℕ) → are_scalar a b ≡ true → b ≤ 0x10FFFF
unfolding is_scalar
scalar-most a b e =
    let x = both_true (is_scalar a) _ e in
    let y = both_true (is_scalar b) _ x.1 in
    leb-true b 0x10FFFF (both_true (leb b 0x10FFFF) _ y.0).0

pub record Covered (r : Stride) (c : ℕ) : Type 0 where
  pub begins : r.first ≤ c
  pub ends : c ≤ r.last
  pub steps : (c - r.first) % r.step ≡ 0

pub covered : (r : Stride) (c : ℕ) → covers r c ≡ true → Covered r c
covered r c e =
    let a = both_true (leb r.first c) _ e in
    let b = both_true (leb c r.last) _ a.1 in
    record { begins = leb-true _ _ a.0; ends = leb-true _ _ b.0; steps = eqb-true _ _ b.1 }

-- ---- places

abbrev pub row_at : List ℕ → ℕ → Stride
row_at t k =
    get_or t (k * 6 + 1) 0 to get_or t (k * 6) 0 by get_or t (k * 6 + 2) 0
    is get_or t (k * 6 + 3) 0 then get_or t (k * 6 + 4) 0 then get_or t (k * 6 + 5) 0

pub count : (rs : List Stride) → length (numbers rs) ≡ length rs * 6
unfolding numbers
count [] = refl
count (r ∷ rs) = omega (arith, count rs)

-- the row of six numbers
abbrev pub row_of : List ℕ → Stride
row_of y = get_or y 1 0 to get_or y 0 0 by get_or y 2 0 is get_or y 3 0 then get_or y 4 0 then get_or y 5 0

-- the first six numbers from row k on are the row
pub taken : (t y : List ℕ) (k : ℕ) → 6 ≤ length t - k * 6 → y ≡ take 6 (take (length t - k * 6) (drop (k * 6) t)) → row_of y ≡ row_at t k
taken t y k h e =
    let same : k * 6 + 0 ≡ k * 6 = omega arith in
    rw (at 0 (omega arith) ∙ ap (λ (n : ℕ). get_or t n 0) same, at 1 (omega arith), at 2 (omega arith), at 3 (omega arith), at 4 (omega arith), at 5 (omega arith))
  where
    at : (j : ℕ) → j < 6 → get_or y j 0 ≡ get_or t (k * 6 + j) 0
    at j l =
        ap (λ (n : List ℕ). get_or n j 0) e
        ∙ get_or-take 6 (take (length t - k * 6) (drop (k * 6) t)) j 0 l
        ∙ get_or-take (length t - k * 6) (drop (k * 6) t) j 0 (omega arith)
        ∙ get_or-drop (k * 6) t j 0

pub row_next : (r : Stride) (rs : List Stride) (k : ℕ) → row_at (numbers (r ∷ rs)) (suc k) ≡ row_at (numbers rs) k
unfolding numbers
row_next r rs k =
    rw (
      shift (suc k * 6) (k * 6) (omega arith),
      shift (suc k * 6 + 1) (k * 6 + 1) (omega arith),
      shift (suc k * 6 + 2) (k * 6 + 2) (omega arith),
      shift (suc k * 6 + 3) (k * 6 + 3) (omega arith),
      shift (suc k * 6 + 4) (k * 6 + 4) (omega arith),
      shift (suc k * 6 + 5) (k * 6 + 5) (omega arith),
    )
  where
    shift : (m n : ℕ) → m ≡ suc (suc (suc (suc (suc (suc n))))) →
        get_or (r.last ∷ r.first ∷ r.step ∷ r.one ∷ r.two ∷ r.three ∷ numbers rs) m 0 ≡ get_or (numbers rs) n 0
    shift m n e = ap (λ (i : ℕ). get_or (r.last ∷ r.first ∷ r.step ∷ r.one ∷ r.two ∷ r.three ∷ numbers rs) i 0) e

pub sound-at : (rs : List Stride) → every is_right rs ≡ true → (k : ℕ) → k < length rs → Sound (row_at (numbers rs) k)
unfolding every numbers
sound-at [] e k h = absurd (omega arith)
sound-at (r ∷ rs) e zero h = sound r (both_true (is_right r) (every is_right rs) e).0
sound-at (r ∷ rs) e (suc k) h = subst⁻¹ Sound (row_next r rs k) (sound-at rs (both_true (is_right r) (every is_right rs) e).1 k (omega arith))
