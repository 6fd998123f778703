-- The hash of bytes: one turn of its loop, and the end.
--     hash-turn, hash-end    one turn of the loop, and its end
-- Assumes nothing.
use Rattle.std.proofs.Common.{ℕ, ◌+◌, ◌≤◌, ◌<◌, add-one, ◌≡◌, List, length, get_or, drop, drop_of_length-le, drop-cons, bit_xor}
use Rattle.lookup.specs.Fnv.{times, hash_from}

module _ (bs : List ℕ) (h i : ℕ) where
  pub hash-turn : i < length bs → hash_from h (drop i bs) ≡ hash_from (times (bit_xor (get_or bs i 0) h) 16777619) (drop (i + 1) bs)
  unfolding hash_from
  hash-turn l = rw (add-one i, drop-cons bs i 0 l)

  pub hash-end : length bs ≤ i → hash_from h (drop i bs) ≡ h
  unfolding hash_from
  hash-end l = rw (drop_of_length-le bs l)
