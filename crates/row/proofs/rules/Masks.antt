-- Judging rows by masks comes to the same as judging them by the row rules.
--     bit_kept                     bit k of a mask is set exactly if a row of kind k keeps the rules
--     masks-step, masks-whole      the masks after a row; whether the sequence may end
--     after-chunk, after-else      the masks in the code's arms that take several kinds
-- Assumes nothing.
use Prim.Native.Nat.{ℕ, ◌≤◌, ◌<◌}
use native.Mathlib.Omega.{arith}
use mathlib.Core.Path.{◌≡◌, refl, ap₂}
use mathlib.Core.Bool.{Bool, true, false, cond, ◌&&◌, ◌||◌, beq}
use lib.Dec.{T, eqb, ltb, eqb→eq}
use borrow.Author.Tests.{eqb-true, eqb-false, ne_eqb, ltb-true, ltb-false}
use Rattle.text.proofs.general.Below.{below, each}
use Rattle.text.proofs.general.Tests.{beq-eq}
use Rattle.row.specs.declared.mask.Masks.{Masks}
use Rattle.row.specs.Rules.{Await, part, type, key, value, chunk, chunks, cause, wrong, is_detail, next, whole}
use Rattle.row.specs.Masks.{may_of, more_of, masks, masks_of, bit, taken_of, after_of, step_of, ends_of}
use Rattle.row.specs.Ruled.{after_row}
use Rattle.row.proofs.rules.SmallKinds.{next-large}

-- ---- a test that the checker computes at everything that may be awaited

-- the test t passes at each thing that may be awaited
abbrev Each : (Await → Bool) → Type 0
Each t =
    T (t (part false)) × T (t (part true)) × T (t type) × T (t key) × T (t (value false)) × T (t (value true))
    × T (t (chunk false)) × T (t (chunk true)) × T (t (chunks false)) × T (t (chunks true)) × T (t cause) × T (t wrong)

abbrev passed : Each (λ a. true)
passed = (tt, tt, tt, tt, tt, tt, tt, tt, tt, tt, tt, tt)

at_each : (t : Await → Bool) → Each t → (a : Await) → T (t a)
at_each t x (part false) = x.0
at_each t x (part true) = x.1
at_each t x type = x.2
at_each t x key = x.3
at_each t x (value false) = x.4
at_each t x (value true) = x.5
at_each t x (chunk false) = x.6
at_each t x (chunk true) = x.7
at_each t x (chunks false) = x.8
at_each t x (chunks true) = x.9
at_each t x cause = x.10
at_each t x wrong = x.11

agree : (x y : Await → Bool) → Each (λ a. beq (x a) (y a)) → (a : Await) → x a ≡ y a
agree x y e a = beq-eq (x a) (y a) (at_each (λ a. beq (x a) (y a)) e a)

-- the test t passes at each of the eleven kinds
abbrev kinds : (Await → ℕ → Bool) → Await → Bool
kinds t a = below (t a) 11

at-kind : (t : Await → ℕ → Bool) → Each (kinds t) → (a : Await) (k : ℕ) → k < 11 → T (t a k)
at-kind t e a k h = each (t a) 11 (at_each (kinds t) e a) k h

-- ---- the masks' bits

-- the rules are not broken
abbrev pub kept : Await → Bool
kept (part f) = true
kept type = true
kept key = true
kept (value f) = true
kept (chunk f) = true
kept (chunks f) = true
kept cause = true
kept wrong = false

pub bit_kept : (a : Await) (k : ℕ) → k < 11 → bit (may_of a) k ≡ kept (next a k)
unfolding next
bit_kept a k h = beq-eq (bit (may_of a) k) (kept (next a k)) (at-kind (λ a k. beq (bit (may_of a) k) (kept (next a k))) passed a k h)

-- a cause may come exactly where its bit is the only one of the mask
cause-kept : (a : Await) → eqb (may_of a) 0x400 ≡ kept (next a 10)
unfolding next
cause-kept = agree (λ a. eqb (may_of a) 0x400) (λ a. kept (next a 10)) passed

pub masks-whole : (a : Await) → ends_of (masks_of a) ≡ whole a
unfolding ends_of
masks-whole = agree (λ a. ends_of (masks_of a)) whole passed

-- ---- a row

kept_small : (a : Await) (k : ℕ) → kept (next a k) ≡ true → k < 11
kept_small a k e = by (ltb k 11) refl
  where
    by : (b : Bool) → ltb k 11 ≡ b → k < 11
    by true p = ltb-true k 11 p
    by false p = let x = next-large k (ltb-false k 11 p) a in let z : ◌≡◌ {A = ℕ} 0 1 = cc in absurd (omega arith)

abbrev same : Masks → Masks → Bool
same m n = cond (eqb m.0 n.0) (eqb m.1 n.1) false

same-eq : (m n : Masks) → T (same m n) → m ≡ n
same-eq m n = by (eqb m.0 n.0) refl
  where
    by : (b : Bool) → eqb m.0 n.0 ≡ b → T (cond b (eqb m.1 n.1) false) → m ≡ n
    by true e t = ap₂ masks (eqb-true m.0 n.0 e) (eqb→eq m.1 n.1 t)
    by false e t = absurd t

-- a test that asks y only where x is true, or only where it is false
asked : (x y : Bool) → x ≡ true → T (cond x y true) → T y
asked true y e t = t
asked false y e t = let z : ◌≡◌ {A = ℕ} 0 1 = cc in absurd (omega arith)

asked-not : (x y : Bool) → x ≡ false → T (cond x true y) → T y
asked-not false y e t = t
asked-not true y e t = let z : ◌≡◌ {A = ℕ} 0 1 = cc in absurd (omega arith)

after_kept : (a : Await) (k : ℕ) → kept (next a k) ≡ true → after_of (more_of a) k ≡ masks_of (next a k)
unfolding next after_of
after_kept a k e =
    same-eq (after_of (more_of a) k) (masks_of (next a k))
    (asked (kept (next a k)) _ e
    (at-kind (λ a k. cond (kept (next a k)) (same (after_of (more_of a) k) (masks_of (next a k))) true) passed a k (kept_small a k e)))

not-kept : (a : Await) → kept a ≡ false → masks 0 0 ≡ masks_of a
not-kept a e = same-eq (masks 0 0) (masks_of a) (asked-not (kept a) _ e (at_each (λ a. cond (kept a) true (same (masks 0 0) (masks_of a))) passed a))

-- a row with detail 0, which is no cause
low-kept : (a : Await) (k : ℕ) → (k ≡ 10 → ⊥) → cond (ltb k 10) (bit (may_of a) k) false ≡ kept (next a k)
low-kept a k h = by (ltb k 10) refl
  where
    by : (b : Bool) → ltb k 10 ≡ b → cond b (bit (may_of a) k) false ≡ kept (next a k)
    by true p = let l = ltb-true k 10 p in bit_kept a k (omega arith)
    by false p = let l = ltb-false k 10 p in rw (next-large k (omega arith) a)

taken-kept : (a : Await) (k d : ℕ) → taken_of (may_of a) k d ≡ (is_detail k d && kept (next a k))
unfolding taken_of
taken-kept a k d = by (eqb d 0) (eqb k 10) refl refl
  where
    by : (x y : Bool) → eqb d 0 ≡ x → eqb k 10 ≡ y
        → cond x (cond (ltb k 10) (bit (may_of a) k) false) (is_detail k d && eqb (may_of a) 0x400) ≡ (is_detail k d && kept (next a k))
    by true true p q = rw (eqb-true d 0 p, eqb-true k 10 q)
    by true false p q = rw (q, p) (low-kept a k (eqb-false k 10 q))
    by false true p q = rw (eqb-true k 10 q, cause-kept a)
    by false false p q = rw (q, p)

pub masks-step : (a : Await) (k d : ℕ) → step_of (masks_of a) k d ≡ masks_of (after_row a k d)
unfolding step_of
masks-step a k d = rw (taken-kept a k d) (by (is_detail k d) (kept (next a k)) refl)
  where
    by : (x y : Bool) → kept (next a k) ≡ y → cond (x && y) (after_of (more_of a) k) (masks 0 0) ≡ masks_of (cond x (next a k) wrong)
    by true true e = after_kept a k e
    by true false e = not-kept (next a k) e
    by false y e = refl

-- ---- the code's arms

module _ (m k : ℕ) (p1 : k ≡ 1 → ⊥) (p2 : k ≡ 2 → ⊥) (p3 : k ≡ 3 → ⊥) (p4 : k ≡ 4 → ⊥) (p5 : k ≡ 5 → ⊥) where
  -- a literal or a name: 6 or 7
  pub after-chunk : 1 ≤ k → k < 8 → masks m m ≡ after_of m k
  unfolding after_of
  after-chunk l h = rw (ne_eqb k 1 p1, ne_eqb k 2 p2, ne_eqb k 3 p3, ne_eqb k 4 p4, ne_eqb k 5 p5) (by (eqb k 6) _ refl)
    where
      by : (b : Bool) (o : Masks) → eqb k 6 ≡ b → masks m m ≡ cond (b || eqb k 7) (masks m m) o
      by true o e = refl
      by false o e = let x : k ≡ 7 = omega (arith, eqb-false k 6 e) in rw x

  pub after-else : (k ≡ 6 → ⊥) → (k ≡ 7 → ⊥) → (k ≡ 8 → ⊥) → (k ≡ 9 → ⊥) → masks 0x303 0x3C3 ≡ after_of m k
  unfolding after_of
  after-else p6 p7 p8 p9 =
      rw (ne_eqb k 1 p1, ne_eqb k 2 p2, ne_eqb k 3 p3, ne_eqb k 4 p4, ne_eqb k 5 p5, ne_eqb k 6 p6, ne_eqb k 7 p7, ne_eqb k 8 p8, ne_eqb k 9 p9)
