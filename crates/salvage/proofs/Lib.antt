-- The laws and proofs of `salvage`, lowest first. The proof of a function is in MODULE/FUNCTION/.

-- where a file is cut, and what a cut does to strict reading
pub mod cutting
-- the rows that salvage gives: of each piece, of the whole file, and of a file without damage
pub mod rows
-- the ways through the functions of the code
pub mod ways
-- the proof of specs/Demand3.antt: one author's damaged file never costs another's entry
pub mod Demand3
-- the proof of specs/Worked.antt: two cases that compute
pub mod Worked
-- the proof of specs/Refusals.antt: which refusals salvage can answer
pub mod Refusals
-- any two outcomes that the public contract allows are the same
pub mod Unique
