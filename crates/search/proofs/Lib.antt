-- The laws and proofs of `search`, lowest first. The proof of a function is in FUNCTION/.

-- the order of keys, and the turns of the search
pub mod halving
-- the proof of specs/Search.antt: what the search promises to the crates above
pub mod Search
-- any two outcomes that a public contract allows are the same
pub mod Unique
