-- The rows of numbers by chunks of four, and those of bytes by chunks of seven.
--     row_in                      the row of a chunk of four
--     chunk-next, chunk_end       the rows from a chunk on: the row of its four numbers and those of the chunks behind it, or none
--     seven-next, seven_end       likewise of seven bytes
--     outside-off, inside-on      the code's test of a span, which fails or passes
-- Assumes nothing.
use Rattle.std.proofs.Common.{ℕ, zero, suc, ◌+◌, ◌*◌, ◌/◌, ◌≤◌, ◌<◌, ◌≡◌, refl, ◌∙◌, ap, true, false, ◌||◌, nat_lt, List, [], ◌∷◌, arith}
use Rattle.std.proofs.Common.{length, get_or, drop, length-drop, get_or-drop, get_or-take}
use Rattle.std.specs.Simd.{first_chunks}
use Rattle.std.proofs.lemmas.Bool.Decides.{nat_tests}
use Rattle.row.specs.Row.{Row}
use Rattle.row.specs.Laid.{row_at}
use Rattle.row.specs.Limits.{most_bytes}
use Rattle.row.specs.Numbers.{rows_of}
use Rattle.row.proofs.Laid.{laid}
use Rattle.pack.specs.Seven.{span_fits, unpacking, unpack_at}
use Rattle.pack.proofs.bytes.SevenBytes.{sevens-next, sevens-end}

chunk_at : (n : ℕ) (xs : List ℕ) (k i j : ℕ) → i < k → k * n ≤ length xs → j < n → get_or (get_or (first_chunks n k xs) i []) j 0 ≡ get_or xs (i * n + j) 0
chunk_at n xs zero i j h l m = absurd (omega arith)
chunk_at n xs (suc k) zero j h l m = get_or-take n xs j 0 m ∙ ap (λ (a : ℕ). get_or xs a 0) (omega arith)
chunk_at n xs (suc k) (suc i) j h l m =
    chunk_at n (drop n xs) k i j (omega arith) (omega (arith, length-drop n xs)) m
    ∙ get_or-drop n xs (i * n + j) 0 ∙ ap (λ (a : ℕ). get_or xs a 0) (omega arith)

count : (n k : ℕ) (xs : List ℕ) → length (first_chunks n k xs) ≡ k
count n zero xs = refl
count n (suc k) xs = ap suc (count n k (drop n xs))

-- where the numbers of a list are cut into k chunks of n
module _ (n k : ℕ) (xs : List ℕ) {ys : List (List ℕ)} (e : ys ≡ first_chunks n k xs) where
  all : length ys ≡ k
  all = ap length e ∙ count n k xs

  number : k * n ≤ length xs → (i : ℕ) → i < length ys → (j : ℕ) → j < n → get_or (get_or ys i []) j 0 ≡ get_or xs (i * n + j) 0
  number l i h j m = ap (λ (zs : List (List ℕ)). get_or (get_or zs i []) j 0) e ∙ chunk_at n xs k i j (omega (arith, all)) l m

-- the row of the chunk i
abbrev pub row_in : List (List ℕ) → ℕ → Row
row_in ys i = row_at (get_or ys i []) 0

module _ (xs : List ℕ) {ys : List (List ℕ)} (e : ys ≡ first_chunks 4 (length xs / 4) xs) (i : ℕ) where
  pub chunk-next : i < length ys → rows_of (drop (i * 4) xs) ≡ row_in ys i ∷ rows_of (drop ((i + 1) * 4) xs)
  chunk-next h =
      let f = number 4 (length xs / 4) xs e (omega arith) i h in
      let n : (i + 1) * 4 ≡ i * 4 + 4 = omega arith in
      let z : i * 4 + 0 ≡ i * 4 = omega arith in
      rw (n, f 0 (omega arith), f 1 (omega arith), f 2 (omega arith), f 3 (omega arith), z)
      (laid.rows_next xs (i * 4) (omega (arith, all 4 (length xs / 4) xs e)))

  pub chunk_end : length ys ≤ i → rows_of (drop (i * 4) xs) ≡ []
  chunk_end h = laid.rows_end xs (i * 4) (omega (arith, all 4 (length xs / 4) xs e))

module _ (xs : List ℕ) {ys : List (List ℕ)} (e : ys ≡ first_chunks 7 (length xs / 7) xs) (i : ℕ) where
  pub seven-next : i < length ys → unpacking (drop (i * 7) xs) ≡ unpack_at (get_or ys i []) 0 ∷ unpacking (drop ((i + 1) * 7) xs)
  seven-next h =
      let f = number 7 (length xs / 7) xs e (omega arith) i h in
      let n : (i + 1) * 7 ≡ i * 7 + 7 = omega arith in
      let z₀ : i * 7 + 0 ≡ i * 7 = omega arith in
      let z₂ : i * 7 + 2 ≡ i * 7 + 1 + 1 = omega arith in
      let z₃ : i * 7 + 3 ≡ i * 7 + 1 + 2 = omega arith in
      let z₅ : i * 7 + 5 ≡ i * 7 + 4 + 1 = omega arith in
      let z₆ : i * 7 + 6 ≡ i * 7 + 4 + 2 = omega arith in
      rw (n, f 0 (omega arith), f 1 (omega arith), f 2 (omega arith), f 3 (omega arith), f 4 (omega arith), f 5 (omega arith), f 6 (omega arith), z₀, z₂, z₃, z₅, z₆)
      (sevens-next xs (i * 7) (omega (arith, all 7 (length xs / 7) xs e)))

  pub seven_end : length ys ≤ i → unpacking (drop (i * 7) xs) ≡ []
  seven_end h = sevens-end xs (i * 7) (omega (arith, all 7 (length xs / 7) xs e))

-- ---- the code's test of a span

module _ (r : Row) where
  pub outside-off : nat_lt most_bytes r.end || nat_lt r.end r.start ≡ true → span_fits r ≡ false
  outside-off h = grind (arith, nat_tests)

  pub inside-on : nat_lt most_bytes r.end || nat_lt r.end r.start ≡ false → span_fits r ≡ true
  inside-on h = grind (arith, nat_tests)
