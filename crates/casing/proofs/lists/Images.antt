-- What is mapped by a list of which every row passes a test.
--     Outcome, outcome      a character is its own image, or a row has it
--     few-of                an image has one to three characters
--     scalar-of             all are scalar values
--     size_of               and have at most three times as many octets
-- Assumes nothing.
use Rattle.std.proofs.Common.{ℕ, zero, suc, ◌+◌, ◌-◌, ◌*◌, ◌≤◌, arith, ◌≡◌, refl, Bool, true, false, not, ◌||◌, List, [], ◌∷◌, ltb, length, length-append, ltb-true}
use Rattle.std.proofs.Common.{le-leb}
use mathlib.Core.Path.{subst⁻¹}
use borrow.Author.Tests.{lt-leb}
use Rattle.text.proofs.general.Tests.{both_true}
use Rattle.text.proofs.general.OctetCounts.{octets-rise}
use Rattle.text.specs.Range.{◌–◌, within}
use Rattle.text.specs.Every.{every}
use Rattle.text.specs.Utf8.{is_scalar, octets, utf8_of}
use Rattle.casing.specs.Mapping.{Stride, some, image_of, covers, image_in, mapped, are_scalar, is_right}
use Rattle.casing.proofs.lists.Rows.{sound, scalar-most, covered}

pub data Outcome (t : Stride → Bool) (rs : List Stride) (c : ℕ) : Type 0 where
  itself : mapped rs c ≡ c ∷ [] → Outcome t rs c
  row : (r : Stride) → t r ≡ true → covers r c ≡ true → mapped rs c ≡ image_in r c → Outcome t rs c

pub outcome : (t : Stride → Bool) (rs : List Stride) (c : ℕ) → every t rs ≡ true → Outcome t rs c
unfolding mapped every
outcome t [] c e = itself refl
outcome t (r ∷ rs) c e = by (covers r c) refl (outcome t rs c (both_true (t r) (every t rs) e).1)
  where
    by : (x : Bool) → covers r c ≡ x → Outcome t rs c → Outcome t (r ∷ rs) c
    by true g o = row r (both_true (t r) (every t rs) e).0 g (rw g)
    by false g (itself q) = itself (rw g q)
    by false g (row s p d q) = row s p d (rw g q)

-- ---- how many characters

pub few-of : (rs : List Stride) (c : ℕ) → every is_right rs ≡ true → (1 ≤ length (mapped rs c)) × (length (mapped rs c) ≤ 3)
few-of rs c e = by (outcome is_right rs c e)
  where
    image : (a b d : ℕ) → (1 ≤ length (image_of a b d)) × (length (image_of a b d) ≤ 3)
    image a zero d = (omega arith, omega arith)
    image a (suc b) zero = (omega arith, omega arith)
    image a (suc b) (suc d) = (omega arith, omega arith)

    by : Outcome is_right rs c → (1 ≤ length (mapped rs c)) × (length (mapped rs c) ≤ 3)
    by (itself q) = subst⁻¹ (λ (l : List ℕ). (1 ≤ length l) × (length l ≤ 3)) q (omega arith, omega arith)
    by (row r p d q) = subst⁻¹ (λ (l : List ℕ). (1 ≤ length l) × (length l ≤ 3)) q (image (r.one + (c - r.first)) r.two r.three)

-- ---- scalar values

between : (a b d : ℕ) → are_scalar a b ≡ true → a ≤ d → d ≤ b → is_scalar d ≡ true
unfolding is_scalar
between a b d e l h =
    let x = both_true (is_scalar a) _ e in
    let y = both_true (is_scalar b) _ x.1 in
    let z = scalar-most a b e in
    rw (le-leb d 0x10FFFF (omega arith)) (by (ltb b 0xD800) refl y.1)
  where
    by : (x : Bool) → ltb b 0xD800 ≡ x → (x || ltb 0xDFFF a) ≡ true → not (within (0xD800 – 0xDFFF) d) ≡ true
    by true p q = let m = ltb-true b 0xD800 p in rw (lt-leb 0xD800 d (omega arith))
    by false p q = let m = ltb-true 0xDFFF a q in rw (le-leb 0xD800 d (omega arith), lt-leb d 0xDFFF (omega arith))

pub scalar-of : (rs : List Stride) (c : ℕ) → every is_right rs ≡ true → is_scalar c ≡ true → every is_scalar (mapped rs c) ≡ true
unfolding every
scalar-of rs c e s = by (outcome is_right rs c e)
  where
    image : (a b d : ℕ) → is_scalar a ≡ true → is_scalar b ≡ true → is_scalar d ≡ true → every is_scalar (image_of a b d) ≡ true
    image a zero d p q r = rw p
    image a (suc b) zero p q r = rw (p, q)
    image a (suc b) (suc d) p q r = rw (p, q, r)

    by : Outcome is_right rs c → every is_scalar (mapped rs c) ≡ true
    by (itself q) = subst⁻¹ (λ (l : List ℕ). every is_scalar l ≡ true) q (rw s)
    by (row r p d q) =
        let k = sound r p in
        let m = covered r c d in
        subst⁻¹ (λ (l : List ℕ). every is_scalar l ≡ true) q
        (image (r.one + (c - r.first)) r.two r.three (between _ _ _ k.scalars (omega arith) (omega (arith, m.ends, m.begins))) k.second k.third)

-- ---- octets

pub size_of : (rs : List Stride) (c : ℕ) → every is_right rs ≡ true → length (utf8_of (mapped rs c)) ≤ 3 * length (octets c)
unfolding utf8_of
size_of rs c e = by (outcome is_right rs c e)
  where
    first : (a : ℕ) (l : List ℕ) → length (utf8_of (a ∷ l)) ≡ length (octets a) + length (utf8_of l)
    first a l = length-append (octets a) (utf8_of l)

    by : Outcome is_right rs c → length (utf8_of (mapped rs c)) ≤ 3 * length (octets c)
    by (itself q) = subst⁻¹ (λ (l : List ℕ). length (utf8_of l) ≤ 3 * length (octets c)) q (omega (arith, first c []))
    by (row r p d q) =
        let k = sound r p in
        let m = covered r c d in
        let a = r.one + (c - r.first) in
        let b = r.one + (r.last - r.first) in
        let l = some r.two (some r.three []) in
        let u = octets-rise a b (omega (arith, m.ends)) in
        let v = octets-rise r.first c m.begins in
        subst⁻¹ (λ (l : List ℕ). length (utf8_of l) ≤ 3 * length (octets c)) q (omega (arith, first a l, first b l, k.short))
