-- A list that maps no character of an image: mapping twice is mapping once. That no row has a character of another one's images is tested
-- row by row, and not character by character.
--     is_final      the test of a row, against all rows
--     again-of      what follows
-- Assumes nothing.
use Rattle.std.proofs.Common.{ℕ, ◌+◌, ◌-◌, ◌%◌, arith, ◌≡◌, refl, sym, subst, Bool, true, false, not, ◌&&◌, ◌||◌, List, [], ◌∷◌, ⊎_elim, ltb, eqb, le-ltb, eqb-true}
use mathlib.Core.List.Memᴰ
use mathlib.Core.List.{Memᴰ}
use borrow.Author.Tests.{eqb-false, not-true}
use Rattle.text.proofs.general.Tests.{both_true}
use Rattle.text.proofs.general.Lists.{every-mem}
use Rattle.text.specs.Every.{every}
use Rattle.casing.specs.Mapping.{Stride, some, covers, mapped, top}
use Rattle.casing.proofs.lists.Rows.{Covered, covered}
use Rattle.casing.proofs.lists.Images.{Outcome, itself, row, outcome}

-- the characters that images of row r begin with are all even, or all odd
abbrev is_alike : Stride → Bool
is_alike r = eqb r.first r.last || eqb r.step 2

-- row s has no character that an image of r begins with: they stand before it, or behind it, or between its characters
abbrev misses : Stride → Stride → Bool
misses r s = ltb (top r) s.first || (ltb s.last r.one || (is_alike r && (eqb s.step 2 && not (eqb (r.one % 2) (s.first % 2)))))

-- no row has d
abbrev is_free : List Stride → ℕ → Bool
is_free rs d = every (λ s. not (covers s d)) rs

-- no row has a character of an image of row r
abbrev pub is_final : List Stride → Stride → Bool
is_final rs r = every (misses r) rs && every (is_free rs) (some r.two (some r.three []))

-- ---- what follows

free : (rs : List Stride) (d : ℕ) → is_free rs d ≡ true → mapped rs d ≡ d ∷ []
unfolding mapped every
free [] d e = refl
free (s ∷ rs) d e =
    let x = both_true (not (covers s d)) (is_free rs d) e in
    rw (not-true (covers s d) x.0) (free rs d x.1)

-- the first character of an image
abbrev begin : Stride → ℕ → ℕ
begin r c = r.one + (c - r.first)

module _ (r : Stride) (c : ℕ) (cov : Covered r c) where
  -- it is even where that of the first character's image is
  alike : is_alike r ≡ true → begin r c % 2 ≡ r.one % 2
  alike e = by (eqb r.first r.last) refl e
    where
      by : (x : Bool) → eqb r.first r.last ≡ x → (x || eqb r.step 2) ≡ true → begin r c % 2 ≡ r.one % 2
      by true p q = let f = eqb-true r.first r.last p in omega (arith, cov.begins, cov.ends)
      by false p q =
          let s : (c - r.first) % 2 ≡ 0 = subst (λ (n : ℕ). (c - r.first) % n ≡ 0) (eqb-true _ _ q) cov.steps in
          omega arith

  missed : (s : Stride) → misses r s ≡ true → covers s (begin r c) ≡ false
  missed s e = by (covers s (begin r c)) refl
    where
      not_there : Covered s (begin r c) → ⊥
      not_there h =
          let front = le-ltb (top r) s.first (omega (arith, h.begins, cov.ends)) in
          let end = le-ltb s.last r.one (omega (arith, h.ends)) in
          let x = both_true (is_alike r) _ (rw (front, end) at e) in
          let y = both_true (eqb s.step 2) _ x.1 in
          let z : (begin r c - s.first) % 2 ≡ 0 = subst (λ (n : ℕ). (begin r c - s.first) % n ≡ 0) (eqb-true _ _ y.0) h.steps in
          eqb-false (r.one % 2) (s.first % 2) (not-true _ y.1) (omega (arith, alike x.0, h.begins))

      by : (x : Bool) → covers s (begin r c) ≡ x → x ≡ false
      by true p = absurd (not_there (covered s (begin r c) p))
      by false p = refl

  missed-all : (rs : List Stride) → every (misses r) rs ≡ true → mapped rs (begin r c) ≡ begin r c ∷ []
  unfolding mapped every
  missed-all [] e = refl
  missed-all (s ∷ rs) e =
      let x = both_true (misses r s) (every (misses r) rs) e in
      rw (missed s x.0) (missed-all rs x.1)

pub again-of : (rs : List Stride) → every (is_final rs) rs ≡ true → (c d : ℕ) → Memᴰ d (mapped rs c) → mapped rs d ≡ d ∷ []
again-of rs e c d h = by (outcome (is_final rs) rs c e)
  where
    by : Outcome (is_final rs) rs c → mapped rs d ≡ d ∷ []
    by (itself q) =
        let p = Memᴰ.eq_of_singleton (subst (Memᴰ d) q h) in
        subst (λ (n : ℕ). mapped rs n ≡ n ∷ []) (sym p) q
    by (row r f g q) =
        let x = both_true (every (misses r) rs) (every (is_free rs) (some r.two (some r.three []))) f in
        ⊎_elim
        (λ p. subst (λ (n : ℕ). mapped rs n ≡ n ∷ []) (sym p) (missed-all r c (covered r c g) rs x.0))
        (λ m. free rs d (every-mem (is_free rs) _ x.1 m))
        (Memᴰ.cases_cons (subst (Memᴰ d) q h))
