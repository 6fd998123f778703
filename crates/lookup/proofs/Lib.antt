-- The laws and proofs of `lookup`, lowest first. The proof of a function is in MODULE/FUNCTION/.

-- bytes: the hash, and texts compared
pub mod bytes
-- rows by their numbers, and the last definition of a name
pub mod rows
-- the definitions in the order of their names: what the order, merging and sorting settle, and the search
pub mod sorting
-- the loops that compare, gather, merge and sort, a turn at a time
pub mod loops
-- the chains of the index, and its two forms
pub mod links
-- the proof of specs/Worked.antt: published hashes, and names in a file
pub mod Worked
-- the proof of specs/Lookup.antt: what is found is the last definition, for the crates above
pub mod Lookup
-- the proof of specs/ShortChains.antt: many definitions of one name make no chain longer
pub mod ShortChains
-- any two outcomes that a public contract allows are the same
pub mod Unique
