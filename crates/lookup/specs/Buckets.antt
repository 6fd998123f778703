-- An index over numbered things that fall into buckets, in lent numbers. The things alone determine it, however it was made.
--     first_from   one more than the first number from i on, and below n, that passes a test, or 0
--     Linked       heads and next hold the index of the things from i on, of n; `q b j` says that thing j is in bucket b
--     Chain        what a chain goes through; `rising` is what it has to go through
-- Assumes nothing.
use Rattle.std.specs.Prelude.{ℕ, zero, suc, ◌-◌, ◌≤◌, ◌<◌, ◌≡◌, Bool, true, cond, List, [], ◌∷◌, length, get_or}

-- one more than the first of the k numbers from i on that passes, or 0
unfoldable pub first_of : (ℕ → Bool) → ℕ → ℕ → ℕ
first_of p zero i = 0
first_of p (suc k) i = cond (p i) (suc i) (first_of p k (suc i))

abbrev pub first_from : (ℕ → Bool) → ℕ → ℕ → ℕ
first_from p n i = first_of p (n - i) i

-- a bucket's head is the bucket's first thing, and `next` has for each thing the first one after it in its bucket
pub record Linked (q : ℕ → ℕ → Bool) (n i : ℕ) (heads next : List ℕ) : Type 0 where
  pub head : (b : ℕ) → b < length heads → get_or heads b 0 ≡ first_from (q b) n i
  pub link : (b j : ℕ) → i ≤ j → j < n → q b j ≡ true → get_or next j 0 ≡ first_from (q b) n (suc j)

-- those of the k numbers from i on that pass, in rising order
unfoldable pub rising : (ℕ → Bool) → ℕ → ℕ → List ℕ
rising p zero i = []
rising p (suc k) i = cond (p i) (i ∷ rising p k (suc i)) (rising p k (suc i))

-- from the number h on, `next` leads through exactly these things and then ends
unfoldable pub Chain : List ℕ → ℕ → List ℕ → Type 0
Chain next h [] = h ≡ 0
Chain next h (i ∷ is) = (h ≡ suc i) × Chain next (get_or next i 0) is
