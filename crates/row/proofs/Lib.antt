-- The laws and proofs of `row`, lowest first. The proof of a function is in MODULE/FUNCTION/.

-- rows as numbers: laid over lent numbers, taken back from numbers, their spans
pub mod numbers
-- the row rules: rows put together, bounds of kinds and details, masks, the turns of the row check
pub mod rules
-- the proof of specs/Sequence.antt: the row check accepts exactly 01's sequences
pub mod Sequence
-- the proof of specs/Laid.antt: rows laid over numbers and moved on, for the crates above
pub mod Laid
-- the proof of specs/Ruled.antt: the row rules, for the crates above
pub mod Ruled
-- any two outcomes that a public contract allows are the same
pub mod Unique
