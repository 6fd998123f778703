-- FNV-1a with 32 bits [02:7]: "the 32-bit FNV-1a hash of the name (basis 2166136261, multiplier 16777619), every product taken modulo
-- 4,294,967,296". For each byte in turn: the hash is joined with it by exclusive or, then multiplied.
--     times        a product modulo 4,294,967,296
--     hash_of      the hash of some bytes
-- The byte is the first argument of `bit_xor` because that computes by the size of its first argument; the result does not depend on the order.
-- Assumes nothing.
use Rattle.std.specs.Prelude.{ℕ, ◌*◌, ◌%◌, List, [], ◌∷◌}
use Rattle.std.specs.Int.Bits.{bit_xor}

abbrev pub times : ℕ → ℕ → ℕ
times a b = (a * b) % 4294967296

unfoldable pub hash_from : ℕ → List ℕ → ℕ
hash_from h [] = h
hash_from h (b ∷ bs) = hash_from (times (bit_xor b h) 16777619) bs

abbrev pub hash_of : List ℕ → ℕ
hash_of bs = hash_from 2166136261 bs
