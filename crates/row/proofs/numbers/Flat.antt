-- Rows and the list of their numbers.
--     flat-length, flat_append      how many numbers a list of rows has; the numbers of two lists of rows
--     rows-flat, flat_rows          from rows to numbers and back, and from numbers to rows and back
--     rows-length                   how many rows a list of numbers has
--     rows_next, rows_end           the rows from the number i on: the first of them and the others, or none
--     rows-by                       the rows from row k on are the rows of the numbers from k * 4 on
-- Assumes nothing.
use Prim.Native.Nat.{ℕ, zero, suc, ◌+◌, ◌*◌, ◌/◌, ◌%◌, ◌≤◌, ◌<◌}
use native.Mathlib.Omega.{arith}
use mathlib.Core.Path.{◌≡◌, refl, ap}
use mathlib.Core.List.{List, [], ◌∷◌, ◌++◌}
use lib.ListN.{length, drop, length-drop}
use Rattle.text.proofs.general.Places.{drop-next, drop_more}
use Rattle.row.specs.Row.{Row, flat}
use Rattle.row.specs.Numbers.{rows_of}
use Rattle.row.specs.Laid.{row_at}

abbrev pub four : ℕ → ℕ → ℕ → ℕ → List ℕ → List ℕ
four a b c d l = a ∷ b ∷ c ∷ d ∷ l

-- ---- from rows to numbers and back

pub flat-length : (rs : List Row) → length (flat rs) ≡ length rs * 4
unfolding flat
flat-length [] = refl
flat-length (r ∷ rs) = let e = flat-length rs in omega arith

pub flat_append : (rs ss : List Row) → flat (rs ++ ss) ≡ flat rs ++ flat ss
unfolding flat
flat_append [] ss = refl
flat_append (r ∷ rs) ss = ap (four r.kind r.detail r.start r.end) (flat_append rs ss)

pub rows-flat : (rs : List Row) → rows_of (flat rs) ≡ rs
unfolding rows_of flat
rows-flat [] = refl
rows-flat (r ∷ rs) = ap (λ (k : List Row). r ∷ k) (rows-flat rs)

pub flat_rows : (l : List ℕ) → length l % 4 ≡ 0 → flat (rows_of l) ≡ l
unfolding rows_of flat
flat_rows [] h = refl
flat_rows (a ∷ []) h = absurd (omega arith)
flat_rows (a ∷ b ∷ []) h = absurd (omega arith)
flat_rows (a ∷ b ∷ c ∷ []) h = absurd (omega arith)
flat_rows (a ∷ b ∷ c ∷ d ∷ l) h = ap (four a b c d) (flat_rows l (omega arith))

pub rows-length : (l : List ℕ) → length (rows_of l) ≡ length l / 4
unfolding rows_of
rows-length [] = refl
rows-length (a ∷ []) = refl
rows-length (a ∷ b ∷ []) = refl
rows-length (a ∷ b ∷ c ∷ []) = refl
rows-length (a ∷ b ∷ c ∷ d ∷ l) = let e = rows-length l in omega arith

-- ---- by index

pub rows_next : (l : List ℕ) (i : ℕ) → i + 4 ≤ length l → rows_of (drop i l) ≡ row_at l i ∷ rows_of (drop (i + 4) l)
unfolding rows_of
rows_next l i h =
    rw (drop-next l i (omega arith), drop_more l i 1 2 (omega arith) refl, drop_more l i 2 3 (omega arith) refl, drop_more l i 3 4 (omega arith) refl)

rows_short : (l : List ℕ) → length l < 4 → rows_of l ≡ []
unfolding rows_of
rows_short [] h = refl
rows_short (a ∷ []) h = refl
rows_short (a ∷ b ∷ []) h = refl
rows_short (a ∷ b ∷ c ∷ []) h = refl
rows_short (a ∷ b ∷ c ∷ d ∷ l) h = absurd (omega arith)

pub rows_end : (l : List ℕ) (i : ℕ) → length l < i + 4 → rows_of (drop i l) ≡ []
rows_end l i h = rows_short (drop i l) (omega (arith, length-drop i l))

times-four : (k : ℕ) → suc k * 4 ≡ suc (suc (suc (suc (k * 4))))
times-four k = omega arith

pub rows-by : (k : ℕ) (l : List ℕ) → drop k (rows_of l) ≡ rows_of (drop (k * 4) l)
unfolding rows_of
rows-by zero l = refl
rows-by (suc k) [] = rw (times-four k)
rows-by (suc k) (a ∷ []) = rw (times-four k)
rows-by (suc k) (a ∷ b ∷ []) = rw (times-four k)
rows-by (suc k) (a ∷ b ∷ c ∷ []) = rw (times-four k)
rows-by (suc k) (a ∷ b ∷ c ∷ d ∷ l) = rw (times-four k) (rows-by k l)
