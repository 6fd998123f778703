-- Search by halving in numbers that are taken for rows, w to a row, whose first two numbers are the row's key. It is defined for any numbers,
-- whether they rise or not; where the rows before some place come before a key and the others do not, it finds that place (`finds` of
-- Search.antt).
--     before        the order of keys
--     place_of      the search among all rows. For src/lib.rt.
-- Assumes nothing.
use Rattle.std.specs.Prelude.{ℕ, zero, suc, ◌+◌, ◌*◌, ◌-◌, ◌/◌, Bool, cond, ◌&&◌, ◌||◌, List, ltb, eqb, length, get_or}

-- the key a, b comes before the key c, d: its first number is smaller, or it is the same and the second is smaller
abbrev pub before : ℕ → ℕ → ℕ → ℕ → Bool
before a b c d = ltb a c || (eqb a c && ltb b d)

-- row k of the numbers t comes before the key a, b
abbrev pub is_low : ℕ → List ℕ → ℕ → ℕ → ℕ → Bool
is_low w t a b k = before (get_or t (k * w) 0) (get_or t (k * w + 1) 0) a b

-- the row in the middle of those from lo up to but not including hi
abbrev pub middle : ℕ → ℕ → ℕ
middle lo hi = lo + (hi - lo) / 2

-- the first place from lo up to hi that is not low, as halving finds it, in at most n turns
unfoldable pub halving : ℕ → (ℕ → Bool) → ℕ → ℕ → ℕ
halving zero low lo hi = lo
halving (suc n) low lo hi =
    cond (ltb lo hi)
    (cond (low (middle lo hi)) (halving n low (middle lo hi + 1) hi) (halving n low lo (middle lo hi)))
    lo

-- in as many turns as there are places, which is enough: each turn leaves fewer places
unfoldable pub between : (ℕ → Bool) → ℕ → ℕ → ℕ
between low lo hi = halving (hi - lo) low lo hi

-- how many rows come before the key a, b
unfoldable pub place_of : ℕ → List ℕ → ℕ → ℕ → ℕ
place_of w t a b = between (is_low w t a b) 0 (length t / w)
