-- Chunk rows in lent numbers.

-- kinds by number, and a chunk row that is put into lent numbers
pub mod ChunkRows
-- the check of chunk rows
pub mod RowCheck
-- what the check and the writers answer
pub mod Answers
