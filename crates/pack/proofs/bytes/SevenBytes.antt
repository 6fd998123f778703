-- Bytes taken as rows, seven to a row.
--     sevens-next, sevens-end     the rows from a byte on: the next row and those behind it, or none
--     unpacking-length            how many rows a list of bytes is
--     seven_is                    the seven bytes of a row, one by one
-- Assumes nothing.
use Rattle.std.proofs.Common.{ℕ, ◌+◌, ◌-◌, ◌*◌, ◌/◌, ◌%◌, ◌≤◌, ◌<◌, arith, ◌≡◌, refl, List, [], ◌∷◌, length, get_or, drop, length-drop}
use Rattle.text.proofs.general.Places.{drop-next, drop_more}
use Rattle.row.specs.Row.{Row}
use Rattle.pack.specs.Digits.{digits}
use Rattle.pack.specs.Seven.{pack_row, unpacking, unpack_at}

-- ---- rows by index

sevens-short : (s : List ℕ) → length s < 7 → unpacking s ≡ []
unfolding unpacking
sevens-short [] h = refl
sevens-short (a ∷ []) h = refl
sevens-short (a ∷ b ∷ []) h = refl
sevens-short (a ∷ b ∷ c ∷ []) h = refl
sevens-short (a ∷ b ∷ c ∷ d ∷ []) h = refl
sevens-short (a ∷ b ∷ c ∷ d ∷ e ∷ []) h = refl
sevens-short (a ∷ b ∷ c ∷ d ∷ e ∷ f ∷ []) h = refl
sevens-short (a ∷ b ∷ c ∷ d ∷ e ∷ f ∷ g ∷ s) h = absurd (omega arith)

three-on : (s : List ℕ) (p : ℕ) → p + 3 ≤ length s → drop p s ≡ get_or s p 0 ∷ get_or s (p + 1) 0 ∷ get_or s (p + 2) 0 ∷ drop (p + 3) s
three-on s p h = rw (drop-next s p (omega arith), drop_more s p 1 2 (omega arith) refl, drop_more s p 2 3 (omega arith) refl)

pub sevens-next : (s : List ℕ) (p : ℕ) → p + 7 ≤ length s → unpacking (drop p s) ≡ unpack_at s p ∷ unpacking (drop (p + 7) s)
unfolding unpacking
sevens-next s p h =
    let e₄ : p + 1 + 3 ≡ p + 4 = omega arith in
    let e₇ : p + 4 + 3 ≡ p + 7 = omega arith in
    rw (drop-next s p (omega arith), three-on s (p + 1) (omega arith), e₄, three-on s (p + 4) (omega arith), e₇)

pub sevens-end : (s : List ℕ) (p : ℕ) → length s < p + 7 → unpacking (drop p s) ≡ []
sevens-end s p h = sevens-short (drop p s) (omega (arith, length-drop p s))

pub unpacking-length : (s : List ℕ) → length (unpacking s) ≡ length s / 7
unfolding unpacking
unpacking-length [] = refl
unpacking-length (a ∷ []) = refl
unpacking-length (a ∷ b ∷ []) = refl
unpacking-length (a ∷ b ∷ c ∷ []) = refl
unpacking-length (a ∷ b ∷ c ∷ d ∷ []) = refl
unpacking-length (a ∷ b ∷ c ∷ d ∷ e ∷ []) = refl
unpacking-length (a ∷ b ∷ c ∷ d ∷ e ∷ f ∷ []) = refl
unpacking-length (a ∷ b ∷ c ∷ d ∷ e ∷ f ∷ g ∷ s) = let x = unpacking-length s in omega arith

-- ---- the code's bytes

-- seven bytes, each of which is what packing says
module _ (r : Row) {x a b c d e f : ℕ} where
  pub seven_is : x ≡ r.kind * 16 + r.detail
      → a ≡ r.start / 256 / 256 % 256 → b ≡ r.start / 256 % 256 → c ≡ r.start % 256
      → d ≡ (r.end - r.start) / 256 / 256 % 256 → e ≡ (r.end - r.start) / 256 % 256 → f ≡ (r.end - r.start) % 256
      → x ∷ a ∷ b ∷ c ∷ d ∷ e ∷ f ∷ [] ≡ pack_row r
  unfolding digits
  seven_is e₀ e₁ e₂ e₃ e₄ e₅ e₆ = rw (e₀, e₁, e₂, e₃, e₄, e₅, e₆)
