-- The loops of the code.

-- judging rows by masks, before anything is written
pub mod Judging
-- the rows of numbers, by chunks of four
pub mod Chunks
-- a list that is written piece by piece into a lent one
pub mod ListWriting
-- one turn of the loops that write rows as bytes and bytes as rows
pub mod RowWriting
