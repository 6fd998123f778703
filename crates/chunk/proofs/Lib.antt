-- The laws and proofs of `chunk`, lowest first. The proof of a function is in MODULE/FUNCTION/.

-- chunk rows in lent numbers
pub mod rows
-- texts, octet by octet
pub mod texts
-- the writers' passes
pub mod passes
-- the cases of specs/Worked.antt compute
pub mod Worked
-- the proof of specs/Characters.antt: definitions by octets go through characters as chunk.rs does
pub mod Characters
-- sentence case
pub mod sentences
-- the proof of specs/WellFormed.antt: what the writers write is UTF-8
pub mod WellFormed
-- the proof of specs/Titles.antt: what stays of chunks in sentence case
pub mod Titles
-- the proof of specs/Refusals.antt: which refusals the writers can answer
pub mod Refusals
-- any two outcomes that a public contract allows are the same
pub mod Unique
