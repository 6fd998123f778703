-- The proof of specs/Fours.antt: `fours`.
-- Assumes nothing.
use Rattle.std.proofs.Common.{ℕ, zero, suc, ◌+◌, ◌*◌, ◌/◌, ◌≤◌, ◌<◌, ◌≡◌, ◌∙◌, refl, ap, List, [], ◌∷◌, arith}
use Rattle.std.proofs.Common.{length, get_or, drop, length-drop, get_or-drop, get_or-take}
use Rattle.std.specs.Simd.{first_chunks}
use Rattle.row.specs.Numbers.{rows_of}
use Rattle.row.proofs.Laid.{laid}
use Rattle.resolve.specs.Fours.{row_in, Fours}

cut_at : (xs : List ℕ) (k i j : ℕ) → i < k → k * 4 ≤ length xs → j < 4 → get_or (get_or (first_chunks 4 k xs) i []) j 0 ≡ get_or xs (i * 4 + j) 0
cut_at xs zero i j h l m = absurd (omega arith)
cut_at xs (suc k) zero j h l m = get_or-take 4 xs j 0 m ∙ ap (λ (n : ℕ). get_or xs n 0) (omega arith)
cut_at xs (suc k) (suc i) j h l m =
    cut_at (drop 4 xs) k i j (omega arith) (omega (arith, length-drop 4 xs)) m
    ∙ get_or-drop 4 xs (i * 4 + j) 0 ∙ ap (λ (n : ℕ). get_or xs n 0) (omega arith)

count : (k : ℕ) (xs : List ℕ) → length (first_chunks 4 k xs) ≡ k
count zero xs = refl
count (suc k) xs = ap suc (count k (drop 4 xs))

module _ (xs : List ℕ) {ys : List (List ℕ)} (e : ys ≡ first_chunks 4 (length xs / 4) xs) (i : ℕ) where
  all : length ys ≡ length xs / 4
  all = ap length e ∙ count (length xs / 4) xs

  module _ (h : i < length ys) where
    four_at : (j : ℕ) → j < 4 → get_or (get_or ys i []) j 0 ≡ get_or xs (i * 4 + j) 0
    four_at j m = ap (λ (zs : List (List ℕ)). get_or (get_or zs i []) j 0) e ∙ cut_at xs (length xs / 4) i j (omega (arith, all)) (omega arith) m

    fours-next : rows_of (drop (i * 4) xs) ≡ row_in ys i ∷ rows_of (drop ((i + 1) * 4) xs)
    fours-next =
        let n : (i + 1) * 4 ≡ i * 4 + 4 = omega arith in
        let z : i * 4 + 0 ≡ i * 4 = omega arith in
        rw (n, four_at 0 (omega arith), four_at 1 (omega arith), four_at 2 (omega arith), four_at 3 (omega arith), z)
        (laid.rows_next xs (i * 4) (omega (arith, all)))

  fours_end : length ys ≤ i → rows_of (drop (i * 4) xs) ≡ []
  fours_end h = laid.rows_end xs (i * 4) (omega (arith, all))

pub fours : Fours
fours = record { four_at = four_at; fours-next = fours-next; fours_end = fours_end }
