-- The row rules.

-- rows that keep the rules keep them when put together or moved on; and whether damage is among them
pub mod Append
-- rows that keep the rules have kinds and details of at most 10
pub mod SmallKinds
-- judging rows by masks comes to the same as the rules
pub mod Masks
-- one turn of the row check, by what its code does
pub mod CheckTurns
