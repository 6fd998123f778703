-- The laws and proofs of `reader`. Its functions need no proof files: the tactics find each proof.

-- any two outcomes that a public contract allows are the same
pub mod Unique
