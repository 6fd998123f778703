-- The chunks of a value one behind the other, as the code has them.

-- when chunks are more than can be written; texts set one behind the other
pub mod SmallChunks
-- the ways through the functions of src/progress.rt
pub mod AppendWays
