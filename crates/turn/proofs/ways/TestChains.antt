-- Chains of tests, as the code joins them and as the definitions do.
-- Assumes nothing.
use Rattle.std.proofs.Common.{ℕ, ◌<◌, arith, ◌≡◌, refl, Bool, true, false, not, ◌&&◌, ◌||◌, leb, ltb, ltb-true}
use borrow.Author.Tests.{lt-leb}
use Rattle.text.specs.Class.{is_whitespace, white_space}
use Rattle.text.specs.Range.{◌–◌, within}
use Rattle.text.proofs.general.Tests.{both_true}

pub plains : (a b c d e f g : Bool) → (a && b && not c && not d && not e && not f && not g) ≡ (a && b && not (c || (d || (e || (f || (g || false))))))
plains false b c d e f g = refl
plains true false c d e f g = refl
plains true true true d e f g = refl
plains true true false true e f g = refl
plains true true false false true f g = refl
plains true true false false false true g = refl
plains true true false false false false true = refl
plains true true false false false false false = refl

pub escape-tests : (a b r : Bool) → (not a && not b && r) ≡ (not (a || (b || false)) && r)
escape-tests true b r = refl
escape-tests false true r = refl
escape-tests false false r = refl

-- ---- characters that are no white space by where they stand

below : (a b c : ℕ) → c < a → within (a – b) c ≡ false
below a b c h = rw (lt-leb a c h) refl

above : (a b c : ℕ) → b < c → within (a – b) c ≡ false
above a b c h = by (leb a c) (leb c b) (lt-leb c b h)
  where
    by : (x y : Bool) → y ≡ false → (x && y) ≡ false
    by true y e = e
    by false y e = refl

none : (x y : Bool) → x ≡ false → y ≡ false → (x || y) ≡ false
none x y p q = rw p q

apart : (c : ℕ) → 0xA0 < c → c < 0x1680 → is_whitespace c ≡ false
unfolding is_whitespace white_space
apart c h k =
    none _ _ (above 0x09 0x0D c (omega (arith, h)))
    (none _ _ (above 0x20 0x20 c (omega (arith, h)))
    (none _ _ (above 0x85 0x85 c (omega (arith, h)))
    (none _ _ (above 0xA0 0xA0 c h)
    (none _ _ (below 0x1680 0x1680 c k)
    (none _ _ (below 0x2000 0x200A c (omega (arith, k)))
    (none _ _ (below 0x2028 0x2029 c (omega (arith, k)))
    (none _ _ (below 0x202F 0x202F c (omega (arith, k)))
    (none _ _ (below 0x205F 0x205F c (omega (arith, k)))
    (none _ _ (below 0x3000 0x3000 c (omega (arith, k))) refl)))))))))

past : (c : ℕ) → 0x3000 < c → is_whitespace c ≡ false
unfolding is_whitespace white_space
past c h =
    none _ _ (above 0x09 0x0D c (omega (arith, h)))
    (none _ _ (above 0x20 0x20 c (omega (arith, h)))
    (none _ _ (above 0x85 0x85 c (omega (arith, h)))
    (none _ _ (above 0xA0 0xA0 c (omega (arith, h)))
    (none _ _ (above 0x1680 0x1680 c (omega (arith, h)))
    (none _ _ (above 0x2000 0x200A c (omega (arith, h)))
    (none _ _ (above 0x2028 0x2029 c (omega (arith, h)))
    (none _ _ (above 0x202F 0x202F c (omega (arith, h)))
    (none _ _ (above 0x205F 0x205F c (omega (arith, h)))
    (none _ _ (above 0x3000 0x3000 c h) refl)))))))))

pub not_white : (c : ℕ) → ((ltb 0xA0 c && ltb c 0x1680) || ltb 0x3000 c) ≡ true → is_whitespace c ≡ false
not_white c h = by (ltb 0xA0 c && ltb c 0x1680) refl h
  where
    by : (x : Bool) → (ltb 0xA0 c && ltb c 0x1680) ≡ x → (x || ltb 0x3000 c) ≡ true → is_whitespace c ≡ false
    by true e k = let t = both_true (ltb 0xA0 c) (ltb c 0x1680) e in apart c (ltb-true 0xA0 c t.0) (ltb-true c 0x1680 t.1)
    by false e k = past c (ltb-true 0x3000 c k)
