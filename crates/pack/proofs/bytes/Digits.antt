-- A number comes back from its digits in a base, and digits come back from their number. One law for every base and every number of digits.
--     of-digits     a number that w digits hold comes back from them
--     digits_of     digits come back from their number
-- Assumes nothing.
use Rattle.std.proofs.Common.{ℕ, zero, suc, ◌+◌, ◌*◌, ◌/◌, ◌%◌, ◌^◌, ◌<◌, arith, pow-suc, div-lt_iff_lt-mul, div-add-mod', ◌≡◌, refl, sym, ap, ap₂, ◌∙◌, subst, List, [], ◌∷◌}
use Rattle.std.proofs.Common.{◌++◌, append_assoc, append-nil, length}
use native.Mathlib.Nat.{pow-zero}
use lib.Arith.{lt-one, digits_div, digits_mod}
use Rattle.pack.specs.Digits.{digits, of_digits, AllBelow}

module _ (base : ℕ) where
  -- the number that has one digit more
  of-more : (l : List ℕ) (a d : ℕ) → of_digits base a (l ++ (d ∷ [])) ≡ of_digits base a l * base + d
  unfolding of_digits
  of-more [] a d = refl
  of-more (c ∷ l) a d = of-more l (a * base + c) d

  pub of-digits : (w n : ℕ) → 0 < base → n < base ^ w → of_digits base 0 (digits base w n) ≡ n
  unfolding digits of_digits
  of-digits zero n p h = sym (lt-one (subst (λ (k : ℕ). n < k) (pow-zero base) h))
  of-digits (suc w) n p h =
      let less : n / base < base ^ w = (div-lt_iff_lt-mul p).1 (subst (λ (k : ℕ). n < k) (pow-suc base w) h) in
      of-more (digits base w (n / base)) 0 (n % base)
      ∙ ap (λ (k : ℕ). k * base + n % base) (of-digits w (n / base) p less)
      ∙ div-add-mod' n base

  -- the digits l behind those of a
  digits-on : (l : List ℕ) (w a : ℕ) → AllBelow base l → digits base (w + length l) (of_digits base a l) ≡ digits base w a ++ l
  unfolding digits of_digits AllBelow
  digits-on [] w a h = let e : w + 0 ≡ w = omega arith in ap (λ (k : ℕ). digits base k a) e ∙ sym (append-nil (digits base w a))
  digits-on (d ∷ l) w a h =
      let e : w + suc (length l) ≡ suc w + length l = omega arith in
      ap (λ (k : ℕ). digits base k (of_digits base (a * base + d) l)) e
      ∙ digits-on l (suc w) (a * base + d) h.1
      ∙ ap₂ (λ (x y : ℕ). digits base w x ++ (y ∷ []) ++ l) (digits_div a h.0) (digits_mod a h.0)
      ∙ append_assoc (digits base w a) (d ∷ []) l

  pub digits_of : (l : List ℕ) → AllBelow base l → digits base (length l) (of_digits base 0 l) ≡ l
  unfolding digits
  digits_of l h = let e : length l ≡ 0 + length l = omega arith in ap (λ (k : ℕ). digits base k (of_digits base 0 l)) e ∙ digits-on l 0 0 h
