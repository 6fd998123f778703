-- A character that is seen, and where a scan stops, for the crates above.
--     char-parts              its code, and the place after it
--     next-inside             the place after it lies in the text
--     at_byte, byte_of        a byte of ASCII and the character that it is
--     white-on                white space goes on behind a character of it
--     skip-inside, skip_at    a scan stops inside the text, or at its end; where it stops inside, the test fails
-- Assumes nothing.
use Rattle.std.specs.Prelude.{Option, Some, None}
use Prim.Native.Nat.{ℕ, zero, suc, ◌+◌, ◌≤◌, ◌<◌}
use native.Mathlib.Omega.{arith}
use mathlib.Core.Path.{◌≡◌, refl, sym, ap, subst, ◌∙◌}
use mathlib.Core.Bool.{Bool, true, false}
use mathlib.Core.List.{List}
use lib.ListN.{length, drop, get_or}
use lib.Dec.{ltb}
use borrow.Author.Tests.{ltb-true, ltb-false}
use Rattle.text.specs.Class.{is_whitespace}
use Rattle.text.specs.Scan.{see, next_of, skip, code, rest}
use Rattle.text.proofs.general.Places.{drop-next}
use Rattle.text.proofs.scanning.Seen.{see-at, see-ascii}
use Rattle.text.proofs.scanning.LongerText.{see-ahead}
use Rattle.text.proofs.scanning.Skip.{code-wide, skip-on, skip_stop, skip-ahead}

abbrev place_of : Option (ℕ × ℕ) → ℕ
place_of None = 0
place_of (Some (c, n)) = n

abbrev code_in : Option (ℕ × ℕ) → ℕ
code_in None = 0
code_in (Some (c, n)) = c

pub char-parts : (s : List ℕ) (p c n : ℕ) → see s p ≡ Some (c, n) → (p < length s) × (c ≡ code (drop p s)) × (n ≡ p + 1 + rest (drop p s))
char-parts s p c n e =
    let h = see-ahead s p c n e in
    let l : p < length s = omega (arith, h.0, h.1) in
    let q = sym e ∙ see-at s p l in
    (l, ap code_in q, ap place_of q)

pub next-inside : (s : List ℕ) (p : ℕ) → p ≤ length s → (p ≤ next_of p (see s p)) × (next_of p (see s p) ≤ length s)
next-inside s p h = by (see s p) refl
  where
    by : (v : Option (ℕ × ℕ)) → see s p ≡ v → (p ≤ next_of p v) × (next_of p v ≤ length s)
    by None e = (omega arith, h)
    by (Some (c, n)) e = let a = see-ahead s p c n e in (omega (arith, a.0), a.1)

pub at_byte : (s : List ℕ) (p b : ℕ) → p < length s → get_or s p 0 ≡ b → b < 0x80 → see s p ≡ Some (b, p + 1)
at_byte s p b l e h = see-ascii s p l (omega (arith, e, h)) ∙ ap (λ (x : ℕ). Some (x, p + 1)) e

pub byte_of : (s : List ℕ) (p c n : ℕ) → see s p ≡ Some (c, n) → c < 0x80 → get_or s p 0 ≡ c
byte_of s p c n e h = let k = char-parts s p c n e in by k (ltb (get_or s p 0) 0x80) refl
  where
    by : (p < length s) × (c ≡ code (drop p s)) × (n ≡ p + 1 + rest (drop p s)) → (w : Bool) → ltb (get_or s p 0) 0x80 ≡ w → get_or s p 0 ≡ c
    by k true q = ap code_in (sym (see-ascii s p k.0 (ltb-true _ _ q)) ∙ e)
    by k false q =
        let wide = code-wide (get_or s p 0) (drop (p + 1) s) (ltb-false _ _ q) in
        absurd (omega (arith, h, k.1, wide, ap code (drop-next s p k.0)))

pub white-on : (s : List ℕ) (p c n : ℕ) → see s p ≡ Some (c, n) → is_whitespace c ≡ true → skip is_whitespace s p ≡ skip is_whitespace s n
white-on s p c n e w =
    let h = char-parts s p c n e in
    skip-on is_whitespace s p h.0 (ap is_whitespace (sym h.1) ∙ w) ∙ ap (skip is_whitespace s) (sym h.2)

pub skip-inside : (t : ℕ → Bool) (s : List ℕ) (p : ℕ) → p ≤ length s → (p ≤ skip t s p) × (skip t s p ≤ length s)
skip-inside t s p h = let a = skip-ahead t s p in (a.from, omega (arith, a.to, h))

pub skip_at : (t : ℕ → Bool) (s : List ℕ) (n i : ℕ) → length s ≤ i + n → skip t s i < length s → t (code (drop (skip t s i) s)) ≡ false
skip_at t s zero i h l = absurd (omega (arith, h, l, (skip-ahead t s i).from))
skip_at t s (suc n) i h l = by (t (code (drop i s))) refl (λ k. skip_at t s n (i + 1 + rest (drop i s)) (omega (arith, h)) k)
  where
    inside : i < length s
    inside = omega (arith, l, (skip-ahead t s i).from)

    by : (w : Bool) → t (code (drop i s)) ≡ w
        → (skip t s (i + 1 + rest (drop i s)) < length s → t (code (drop (skip t s (i + 1 + rest (drop i s))) s)) ≡ false)
        → t (code (drop (skip t s i) s)) ≡ false
    by true e ih =
        let q = skip-on t s i inside e in
        subst (λ (j : ℕ). t (code (drop j s)) ≡ false) (sym q) (ih (omega (arith, l, q)))
    by false e ih = subst (λ (j : ℕ). t (code (drop j s)) ≡ false) (sym (skip_stop t s i inside e)) e
