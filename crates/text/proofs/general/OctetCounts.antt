-- How many octets a character has.
--     octets-rise     a greater character has no fewer octets
-- Assumes nothing.
use Prim.Native.Nat.{ℕ, ◌+◌, ◌≤◌}
use native.Mathlib.Omega.{arith}
use mathlib.Core.Path.{◌≡◌, refl}
use mathlib.Core.Bool.{Bool, true, false, cond}
use lib.Dec.{leb}
use lib.ListN.{length}
use borrow.Author.Tests.{leb-true, leb-false, le-leb}
use Rattle.text.specs.Utf8.{octets}

-- one octet more behind the character n
over : ℕ → ℕ → ℕ
over n c = cond (leb c n) 0 1

over-rise : (n c d : ℕ) → c ≤ d → over n c ≤ over n d
unfolding over
over-rise n c d h = by (leb c n) (leb d n) refl refl
  where
    by : (x y : Bool) → leb c n ≡ x → leb d n ≡ y → cond x 0 1 ≤ cond y 0 1
    by true y p q = omega arith
    by false true p q = omega (arith, leb-false c n p, leb-true d n q)
    by false false p q = omega arith

counted : (c : ℕ) → length (octets c) ≡ 1 + (over 0x7F c + (over 0x7FF c + over 0xFFFF c))
unfolding octets over
counted c = by (leb c 0x7F) (leb c 0x7FF) (leb c 0xFFFF) refl refl refl
  where
    by : (x y z : Bool) → leb c 0x7F ≡ x → leb c 0x7FF ≡ y → leb c 0xFFFF ≡ z → length (octets c) ≡ 1 + (over 0x7F c + (over 0x7FF c + over 0xFFFF c))
    by true y z p q r = let h = leb-true c 0x7F p in rw (p, le-leb c 0x7FF (omega arith), le-leb c 0xFFFF (omega arith))
    by false true z p q r = let h = leb-true c 0x7FF q in rw (p, q, le-leb c 0xFFFF (omega arith))
    by false false true p q r = rw (p, q, r)
    by false false false p q r = rw (p, q, r)

pub octets-rise : (c d : ℕ) → c ≤ d → length (octets c) ≤ length (octets d)
octets-rise c d h = omega (arith, counted c, counted d, over-rise 0x7F c d h, over-rise 0x7FF c d h, over-rise 0xFFFF c d h)
