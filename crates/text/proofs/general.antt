-- Laws of lists, numbers and texts that every crate may cite.

-- what follows from a test that passes, and tests that only ASCII passes
pub mod Tests
-- lists, and the numbers that count in them
pub mod Lists
-- a fact about every number below a bound, from one test that the checker computes at each of them
pub mod Below
-- how many octets a character has
pub mod OctetCounts
-- a text from a place on, octet by octet
pub mod Places
-- a part of a text, from one place to another
pub mod Parts
-- parts of a text, stored one after the other
pub mod Stores
-- texts compared byte by byte
pub mod SameBytes
-- what it means that a contract allows one outcome only
pub mod Outcomes
-- what follows where two answers are equal
pub mod Answers
