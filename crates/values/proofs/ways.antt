-- One law for each way through a function, over what its calls answered.

-- the elements of a value one behind the other: runs, and what the code has of them
pub mod RunWays
-- the elements of a value, row by row: `element_at` and `value`
pub mod ElementWays
-- a name and what it means: `name`
pub mod NameWays
