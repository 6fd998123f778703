-- A law for each way through `encode`.
--     scalar-high                     a scalar value is at most 10FFFF
--     encode-not                      a number that is no scalar value is refused
--     short-one, .. short-four        too little room for that many octets
--     encode_one, .. encode-four      that many octets are written
-- Assumes nothing.
use Rattle.std.specs.Prelude.{Ok, Err}
use Rattle.text.specs.declared.utf8.EncodeError.TheVariants.{NoRoom}
use Rattle.text.specs.declared.utf8.EncodeError.TheVariants.{NotScalar}
use mathlib.Core.Path.{◌≡◌, refl, ◌∙◌}
use mathlib.Core.Bool.{true, false, not}
use mathlib.Core.List.{List, [], ◌∷◌, ◌++◌}
use Prim.Native.Nat.{ℕ, ◌+◌, ◌/◌, ◌<◌, ◌≤◌}
use native.Mathlib.Omega.{arith}
use lib.ListN.{length, drop, set}
use lib.Dec.{leb}
use borrow.Author.Tests.{le-leb, lt-leb, leb-true}
use Rattle.text.specs.Range.{◌–◌, within}
use Rattle.text.specs.Utf8.{is_scalar, further, octets, Encode}
use Rattle.text.proofs.general.Tests.{both_true}

pub scalar-high : (c : ℕ) → is_scalar c ≡ true → c ≤ 0x10FFFF
unfolding is_scalar
scalar-high c e = leb-true _ _ (both_true (leb c 0x10FFFF) (not (within (0xD800 – 0xDFFF) c)) e).0

module _ (c : ℕ) (b : List ℕ) where
  pub encode-not : is_scalar c ≡ false → Encode c b (Err NotScalar) b
  encode-not e = record { answer = rw e; bytes = rw e }

  module _ (scalar : is_scalar c ≡ true) where
    short : (w : List ℕ) → octets c ≡ w → length b < length w → Encode c b (Err NoRoom) b
    short w o h = record { answer = rw (scalar, o, lt-leb (length w) (length b) h); bytes = rw (scalar, o, lt-leb (length w) (length b) h) }

    wrote : (w : List ℕ) (b' : List ℕ) → octets c ≡ w → length w ≤ length b → b' ≡ w ++ drop (length w) b → Encode c b (Ok (length w)) b'
    wrote w b' o h q = record { answer = rw (scalar, o, le-leb (length w) (length b) h); bytes = q ∙ rw (scalar, o, le-leb (length w) (length b) h) }

    module _ (range : c ≤ 0x7F) where
      one : octets c ≡ c ∷ []
      unfolding octets
      one = rw (le-leb c 0x7F range)

      pub short-one : length b < 1 → Encode c b (Err NoRoom) b
      short-one h = short (c ∷ []) one h

      pub encode_one : 1 ≤ length b → Encode c b (Ok 1) (set b 0 c)
      encode_one h = wrote (c ∷ []) (set b 0 c) one h (go b h)
        where
          go : (l : List ℕ) → 1 ≤ length l → set l 0 c ≡ c ∷ drop 1 l
          go [] h = absurd (omega arith)
          go (p ∷ l) h = refl

    module _ (low : 0x7F < c) (range : c ≤ 0x7FF) where
      two : octets c ≡ (0xC0 + c / 64) ∷ further c ∷ []
      unfolding octets
      two = rw (lt-leb c 0x7F low, le-leb c 0x7FF range)

      pub short-two : length b < 2 → Encode c b (Err NoRoom) b
      short-two h = short ((0xC0 + c / 64) ∷ further c ∷ []) two h

      pub encode-two : 2 ≤ length b → {x : ℕ} → x ≡ further c → Encode c b (Ok 2) (set (set b 0 (0xC0 + c / 64)) 1 x)
      encode-two h {x} p = wrote ((0xC0 + c / 64) ∷ further c ∷ []) (set (set b 0 (0xC0 + c / 64)) 1 x) two h (go b h)
        where
          go : (l : List ℕ) → 2 ≤ length l → set (set l 0 (0xC0 + c / 64)) 1 x ≡ (0xC0 + c / 64) ∷ further c ∷ drop 2 l
          go [] h = absurd (omega arith)
          go (p₀ ∷ []) h = absurd (omega arith)
          go (p₀ ∷ p₁ ∷ l) h = rw p

    module _ (low : 0x7FF < c) (range : c ≤ 0xFFFF) where
      three : octets c ≡ (0xE0 + c / 64 / 64) ∷ further (c / 64) ∷ further c ∷ []
      unfolding octets
      three = rw (lt-leb c 0x7F (omega arith), lt-leb c 0x7FF low, le-leb c 0xFFFF range)

      pub short-three : length b < 3 → Encode c b (Err NoRoom) b
      short-three h = short ((0xE0 + c / 64 / 64) ∷ further (c / 64) ∷ further c ∷ []) three h

      pub encode-three : 3 ≤ length b → {x y : ℕ} → x ≡ further (c / 64) → y ≡ further c →
          Encode c b (Ok 3) (set (set (set b 0 (0xE0 + c / 64 / 64)) 1 x) 2 y)
      encode-three h {x} {y} p q = wrote ((0xE0 + c / 64 / 64) ∷ further (c / 64) ∷ further c ∷ []) (set (set (set b 0 (0xE0 + c / 64 / 64)) 1 x) 2 y) three h (go b h)
        where
          go : (l : List ℕ) → 3 ≤ length l →
              set (set (set l 0 (0xE0 + c / 64 / 64)) 1 x) 2 y ≡ (0xE0 + c / 64 / 64) ∷ further (c / 64) ∷ further c ∷ drop 3 l
          go [] h = absurd (omega arith)
          go (p₀ ∷ []) h = absurd (omega arith)
          go (p₀ ∷ p₁ ∷ []) h = absurd (omega arith)
          go (p₀ ∷ p₁ ∷ p₂ ∷ l) h = rw (p, q)

    module _ (low : 0xFFFF < c) where
      four : octets c ≡ (0xF0 + c / 64 / 64 / 64) ∷ further (c / 64 / 64) ∷ further (c / 64) ∷ further c ∷ []
      unfolding octets
      four = rw (lt-leb c 0x7F (omega arith), lt-leb c 0x7FF (omega arith), lt-leb c 0xFFFF low)

      pub short-four : length b < 4 → Encode c b (Err NoRoom) b
      short-four h = short ((0xF0 + c / 64 / 64 / 64) ∷ further (c / 64 / 64) ∷ further (c / 64) ∷ further c ∷ []) four h

      pub encode-four : 4 ≤ length b → {x y z : ℕ} → x ≡ further (c / 64 / 64) → y ≡ further (c / 64) → z ≡ further c →
          Encode c b (Ok 4) (set (set (set (set b 0 (0xF0 + c / 64 / 64 / 64)) 1 x) 2 y) 3 z)
      encode-four h {x} {y} {z} p q r =
          wrote ((0xF0 + c / 64 / 64 / 64) ∷ further (c / 64 / 64) ∷ further (c / 64) ∷ further c ∷ [])
          (set (set (set (set b 0 (0xF0 + c / 64 / 64 / 64)) 1 x) 2 y) 3 z) four h (go b h)
        where
          go : (l : List ℕ) → 4 ≤ length l →
              set (set (set (set l 0 (0xF0 + c / 64 / 64 / 64)) 1 x) 2 y) 3 z
              ≡ (0xF0 + c / 64 / 64 / 64) ∷ further (c / 64 / 64) ∷ further (c / 64) ∷ further c ∷ drop 4 l
          go [] h = absurd (omega arith)
          go (p₀ ∷ []) h = absurd (omega arith)
          go (p₀ ∷ p₁ ∷ []) h = absurd (omega arith)
          go (p₀ ∷ p₁ ∷ p₂ ∷ []) h = absurd (omega arith)
          go (p₀ ∷ p₁ ∷ p₂ ∷ p₃ ∷ l) h = rw (p, q, r)
