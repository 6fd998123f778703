-- One character, encoded into four bytes and copied from there; and the characters of an image, one after the other.
--     encoded-size                               how many octets it has
--     encoded-part                               the bytes that were written are its octets
--     encoded-some                               it is not refused
--     image-one, image-two, image-three          the characters of an image are scalar values
--     one_written, two-written, three-written    what they are written as
-- Assumes nothing.
use Rattle.std.proofs.Common.{ℕ, zero, suc, ◌≤◌, arith, ◌≡◌, refl, sym, ap, ◌∙◌, true}
use Rattle.std.proofs.Common.{List, [], ◌∷◌, ◌++◌, append_assoc, append-nil, length, take, drop, length-append, take_at, le-leb}
use Rattle.std.specs.Prelude.{Result, Ok, Err}
use Rattle.text.specs.declared.utf8.EncodeError.{EncodeError}
use Rattle.text.specs.Every.{every}
use Rattle.text.specs.Utf8.{is_scalar, octets, utf8_of, fits, Encode}
use Rattle.text.specs.Scan.{part}
use Rattle.text.proofs.general.Tests.{both_true}
use Rattle.text.proofs.general.Parts.{part-take}
use Rattle.text.proofs.Shapes.{shapes}
use Rattle.text.proofs.Rfc3629.{rfc3629}
use Rattle.casing.specs.Mapping.{some, image_of}

module _ (c : ℕ) (e : is_scalar c ≡ true) {b b' : List ℕ} {r : Result ℕ EncodeError} (l : 4 ≤ length b) (h : Encode c b r b') where
  four : length (octets c) ≤ 4
  four = (shapes.char-some (octets c) (rfc3629.writes c e)).1

  room : fits c b ≡ true
  room = le-leb (length (octets c)) (length b) (omega (arith, l, four))

  answer : r ≡ Ok (length (octets c))
  answer = h.answer ∙ rw (e, room) refl

  bytes : b' ≡ octets c ++ drop (length (octets c)) b
  bytes = h.bytes ∙ rw (e, room) refl

  -- what was written is all of the character, four octets at most
  pub encoded-size : {n : ℕ} → r ≡ Ok n → (n ≡ length (octets c)) × (n ≤ 4) × (n ≤ length b')
  encoded-size {n} q =
      let same : n ≡ length (octets c) = number (sym q ∙ answer) in
      (same, omega (arith, same, four), omega (arith, same, ap length bytes, length-append (octets c) (drop (length (octets c)) b)))
    where
      number : {n m : ℕ} → ◌≡◌ {A = Result ℕ EncodeError} (Ok n) (Ok m) → n ≡ m
      number p = cc

  pub encoded-part : {n : ℕ} → r ≡ Ok n → part b' 0 n ≡ octets c
  encoded-part {n} q =
      let s = encoded-size q in
      part-take b' n s.2 ∙ ap (take n) bytes ∙ take_at (octets c) (drop (length (octets c)) b) n (sym s.0)

  -- it is never refused
  pub encoded-some : {f : EncodeError} → r ≡ Err f → ⊥
  encoded-some q = let p = sym q ∙ answer in let z : ◌≡◌ {A = ℕ} 0 1 = cc in absurd (omega arith)

-- ---- images

-- the image a, b, c: its characters that are there are scalar values, and what they are written as
module _ (a b c : ℕ) where
  module _ (e : every is_scalar (image_of a b c) ≡ true) where
    pub image-one : is_scalar a ≡ true
    unfolding every
    image-one = (both_true (is_scalar a) _ e).0

    pub image-two : (b ≡ 0 → ⊥) → is_scalar b ≡ true
    unfolding every
    image-two n = by b n (both_true (is_scalar a) _ e).1
      where
        by : (b : ℕ) → (b ≡ 0 → ⊥) → every is_scalar (some b (some c [])) ≡ true → is_scalar b ≡ true
        by zero n h = absurd (n refl)
        by (suc b) n h = (both_true (is_scalar (suc b)) (every is_scalar (some c [])) h).0

    pub image-three : (b ≡ 0 → ⊥) → (c ≡ 0 → ⊥) → is_scalar c ≡ true
    unfolding every
    image-three n m = by b c n m (both_true (is_scalar a) _ e).1
      where
        by : (b c : ℕ) → (b ≡ 0 → ⊥) → (c ≡ 0 → ⊥) → every is_scalar (some b (some c [])) ≡ true → is_scalar c ≡ true
        by zero c n m h = absurd (n refl)
        by (suc b) zero n m h = absurd (m refl)
        by (suc b) (suc c) n m h = (both_true (is_scalar (suc c)) true (both_true (is_scalar (suc b)) (every is_scalar (suc c ∷ [])) h).1).0

  pub one_written : b ≡ 0 → octets a ≡ utf8_of (image_of a b c)
  unfolding utf8_of
  one_written p = rw p (sym (append-nil (octets a)))

  pub two-written : (b ≡ 0 → ⊥) → c ≡ 0 → octets a ++ octets b ≡ utf8_of (image_of a b c)
  unfolding utf8_of
  two-written n p = rw p (by b n)
    where
      by : (b : ℕ) → (b ≡ 0 → ⊥) → octets a ++ octets b ≡ utf8_of (image_of a b 0)
      by zero n = absurd (n refl)
      by (suc b) n = ap (λ (u : List ℕ). octets a ++ u) (sym (append-nil (octets (suc b))))

  pub three-written : (b ≡ 0 → ⊥) → (c ≡ 0 → ⊥) → (octets a ++ octets b) ++ octets c ≡ utf8_of (image_of a b c)
  unfolding utf8_of
  three-written n m = by b c n m
    where
      by : (b c : ℕ) → (b ≡ 0 → ⊥) → (c ≡ 0 → ⊥) → (octets a ++ octets b) ++ octets c ≡ utf8_of (image_of a b c)
      by zero c n m = absurd (n refl)
      by (suc b) zero n m = absurd (m refl)
      by (suc b) (suc c) n m =
          append_assoc (octets a) (octets (suc b)) (octets (suc c))
          ∙ ap (λ (u : List ℕ). octets a ++ (octets (suc b) ++ u)) (sym (append-nil (octets (suc c))))
