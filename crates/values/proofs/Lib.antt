-- The laws and proofs of `values`, lowest first. The proof of a function is in MODULE/FUNCTION/.

-- names and their uses
pub mod naming
-- the ways through each function
pub mod ways
-- the proof of specs/OwnRows.antt: what a value resolves to depends on its own rows, the definitions and the month words alone
pub mod OwnRows
-- the proof of specs/OnlyLiteral.antt: a value that is one literal
pub mod OnlyLiteral
-- the proof of specs/EnoughText.antt: how much text a value can need
pub mod EnoughText
-- the proof of specs/NameUses.antt: 12 to 15 at the use of a name, each exactly if
pub mod NameUses
-- the proof of specs/Refusals.antt: which refusals a value can come to, and their places
pub mod Refusals
-- any two answers that a contract allows are the same
pub mod Unique
