-- Bytes: the hash.

-- the hash of bytes: one turn of its loop, and the end
pub mod HashTurns
-- texts compared: equality and order
pub mod Compared
