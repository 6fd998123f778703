-- The order of keys: what the test `before` says, in numbers.
--     irreflexive        no key comes before itself
--     transitive         what comes before a key comes before all that come behind it
-- Assumes nothing.
use Rattle.std.proofs.Common.{ℕ, ◌<◌, ◌≡◌, refl, Bool, true, false, ◌&&◌, ◌||◌, ltb, eqb, arith, ltb-true, eqb-true, lt-ltb, le-ltb, eq-eqb}
use Rattle.search.specs.Halving.{before}

-- the key a, b comes before the key c, d
data Less (a b c d : ℕ) : Type 0 where
  smaller : a < c → Less a b c d
  same : a ≡ c → b < d → Less a b c d

less-trans : (a b c d e f : ℕ) → Less a b c d → Less c d e f → Less a b e f
less-trans a b c d e f (smaller x) (smaller y) = smaller (omega arith)
less-trans a b c d e f (smaller x) (same y q) = smaller (omega arith)
less-trans a b c d e f (same x p) (smaller y) = smaller (omega arith)
less-trans a b c d e f (same x p) (same y q) = same (omega arith) (omega arith)

before-less : (a b c d : ℕ) → before a b c d ≡ true → Less a b c d
before-less a b c d e = by (ltb a c) (eqb a c) (ltb b d) refl refl refl e
  where
    by : (x y z : Bool) → ltb a c ≡ x → eqb a c ≡ y → ltb b d ≡ z → (x || y && z) ≡ true → Less a b c d
    by true y z p q r t = smaller (ltb-true a c p)
    by false true true p q r t = same (eqb-true a c q) (ltb-true b d r)
    by false true false p q r t = let w : ◌≡◌ {A = ℕ} 0 1 = cc in absurd (omega arith)
    by false false z p q r t = let w : ◌≡◌ {A = ℕ} 0 1 = cc in absurd (omega arith)

less-before : (a b c d : ℕ) → Less a b c d → before a b c d ≡ true
less-before a b c d (smaller x) = rw (lt-ltb a c x)
less-before a b c d (same x y) = rw (le-ltb a c (omega arith), eq-eqb a c x, lt-ltb b d y)

pub irreflexive : (a b : ℕ) → before a b a b ≡ false
irreflexive a b = rw (le-ltb a a (omega arith), eq-eqb a a refl, le-ltb b b (omega arith))

pub transitive : (a b c d e f : ℕ) → before a b c d ≡ true → before c d e f ≡ true → before a b e f ≡ true
transitive a b c d e f p q = less-before a b e f (less-trans a b c d e f (before-less a b c d p) (before-less c d e f q))
