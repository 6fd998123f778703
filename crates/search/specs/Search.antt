-- What the search finds. The proof is `search` of proofs/Search.antt; that two outcomes which the contract allows are equal is
-- proofs/Unique.antt.
-- Assumes nothing.
use Rattle.std.specs.Prelude.{ℕ, ◌≤◌, ◌<◌, ◌≡◌, Bool, true, false}
use Rattle.search.specs.Halving.{before, between}

pub record Search : Type 0 where
  -- no key comes before itself, and what comes before a key comes before all that come behind it
  pub irreflexive : (a b : ℕ) → before a b a b ≡ false
  pub transitive : (a b c d e f : ℕ) → before a b c d ≡ true → before c d e f ≡ true → before a b e f ≡ true
  -- where the first m of n places are low and the others are not, halving finds m
  pub finds : (low : ℕ → Bool) (n m : ℕ) → m ≤ n → ((k : ℕ) → k < m → low k ≡ true) → ((k : ℕ) → m ≤ k → k < n → low k ≡ false) →
      between low 0 n ≡ m
