-- Packing and unpacking undo each other.
--     packing-length, packs-back        rows that seven bytes hold come back when they are packed and unpacked
--     unpacks-back                      bytes whose number is a multiple of seven come back when they are unpacked and packed
-- Assumes nothing.
use Rattle.std.proofs.Common.{ℕ, ◌+◌, ◌-◌, ◌*◌, ◌/◌, ◌%◌, ◌≤◌, arith, ◌≡◌, refl, ap, ap₂, ◌∙◌, List, [], ◌∷◌, ◌++◌, length}
use Rattle.row.specs.Row.{Row}
use Rattle.row.specs.Limits.{most_bytes}
use Rattle.pack.specs.Digits.{digits, AllBelow, Bytes, three_bytes, of_bytes}
use Rattle.pack.specs.Seven.{pack_row, packing, unpack_row, unpacking, InSeven}
use Rattle.pack.proofs.bytes.Digits.{of-digits, digits_of}
use Rattle.pack.proofs.bytes.AcceptedInput.{AllInSeven}

-- ---- from rows to bytes and back

of_three : (n : ℕ) → n ≤ most_bytes → of_bytes (three_bytes n) ≡ n
of_three n h = of-digits 256 3 n (omega arith) (omega arith)

row_back : (r : Row) (l : List ℕ) → InSeven r → unpacking (pack_row r ++ l) ≡ r ∷ unpacking l
unfolding unpacking digits
row_back r l f =
    let e₀ : (r.kind * 16 + r.detail) / 16 ≡ r.kind = omega arith in
    let e₁ : (r.kind * 16 + r.detail) % 16 ≡ r.detail = omega arith in
    let e₂ : of_bytes (three_bytes r.start) ≡ r.start = of_three r.start (omega arith) in
    let e₃ : of_bytes (three_bytes (r.end - r.start)) ≡ r.end - r.start = of_three (r.end - r.start) (omega arith) in
    let e₄ : r.start + (r.end - r.start) ≡ r.end = omega arith in
    rw (e₀, e₁, e₂, e₃, e₄)

pub packs-back : (rs : List Row) → AllInSeven rs → unpacking (packing rs) ≡ rs
unfolding packing unpacking AllInSeven
packs-back [] a = refl
packs-back (r ∷ rs) a = row_back r (packing rs) a.0 ∙ ap (λ (k : List Row). r ∷ k) (packs-back rs a.1)

pub packing-length : (rs : List Row) → length (packing rs) ≡ length rs * 7
unfolding packing digits
packing-length [] = refl
packing-length (r ∷ rs) = let e = packing-length rs in omega arith

-- ---- from bytes to rows and back

less : (x y : ℕ) → x + y - x ≡ y
less x y = omega arith

module _ (h a b c d e f : ℕ) where
  seven-back : Bytes (a ∷ b ∷ c ∷ []) → Bytes (d ∷ e ∷ f ∷ []) → pack_row (unpack_row h a b c d e f) ≡ h ∷ a ∷ b ∷ c ∷ d ∷ e ∷ f ∷ []
  seven-back p q =
      let e₀ : h / 16 * 16 + h % 16 ≡ h = omega arith in
      rw (e₀, less (of_bytes (a ∷ b ∷ c ∷ [])) (of_bytes (d ∷ e ∷ f ∷ [])), digits_of 256 (a ∷ b ∷ c ∷ []) p, digits_of 256 (d ∷ e ∷ f ∷ []) q)

pub unpacks-back : (s : List ℕ) → Bytes s → length s % 7 ≡ 0 → packing (unpacking s) ≡ s
unfolding packing unpacking AllBelow
unpacks-back [] w h = refl
unpacks-back (a ∷ []) w h = absurd (omega arith)
unpacks-back (a ∷ b ∷ []) w h = absurd (omega arith)
unpacks-back (a ∷ b ∷ c ∷ []) w h = absurd (omega arith)
unpacks-back (a ∷ b ∷ c ∷ d ∷ []) w h = absurd (omega arith)
unpacks-back (a ∷ b ∷ c ∷ d ∷ e ∷ []) w h = absurd (omega arith)
unpacks-back (a ∷ b ∷ c ∷ d ∷ e ∷ f ∷ []) w h = absurd (omega arith)
unpacks-back (g ∷ a ∷ b ∷ c ∷ d ∷ e ∷ f ∷ s) w h =
    let u = w.1 in
    let v = u.1.1.1 in
    let row = seven-back g a b c d e f (u.0, (u.1.0, (u.1.1.0, tt))) (v.0, (v.1.0, (v.1.1.0, tt))) in
    ap₂ (λ (x y : List ℕ). x ++ y) row (unpacks-back s v.1.1.1 (omega arith))
