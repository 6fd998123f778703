-- The writers' passes over chunk rows.

-- a text that is formatted chunk by chunk is what `format_verbatim` makes of all chunks
pub mod ChunkByChunk
-- a pass over chunk rows, for every writer
pub mod Passes
-- where each writer's pass begins, its turns, and its end
pub mod PassTurns
-- how many octets chunks are formatted as, at most
pub mod Bounds
