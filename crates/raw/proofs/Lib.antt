-- The laws and proofs of `raw`, lowest first. The proof of a function is in MODULE/FUNCTION/.

-- readers and the ways to make them
pub mod readers
-- the readers of the grammar, and what their laws say of a file
pub mod grammar
-- the definitions with which the inner contracts are written
pub mod contracts
-- one law for each way through each function
pub mod ways
-- the proof of specs/Strict.antt: what strict reading gives, where it accepts and where it refuses
pub mod Strict
-- the proof of specs/Steps.antt: strict reading step by step, for the crates above
pub mod Steps
-- the proof of specs/Refusals.antt: which refusals strict reading can answer
pub mod Refusals
-- the proof of specs/Braces.antt: where a braced value ends
pub mod Braces
-- the proof of specs/Comments.antt: where an `@comment` ends, and that a second comment in a row is refused
pub mod Comments
-- the cases of specs/Worked.antt compute
pub mod Worked
-- any two outcomes that a public contract allows are the same
pub mod Unique
