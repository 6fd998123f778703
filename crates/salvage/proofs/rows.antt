-- The rows that salvage gives.

-- what each piece gives, and what calls of `salvage` give for two texts and for both together
pub mod EachPiece
-- the rows keep the row rules, their starts never fall, and their spans lie in the file
pub mod Order
-- the rows are at most one more than the bytes
pub mod RowCount
-- no damage shows exactly if strict reading accepts the whole file and every boundary opens one of its entries
pub mod Undamaged
