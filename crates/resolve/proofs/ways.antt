-- One law for each way through a function, over what its calls answered.

-- the checks that every call makes first: `check_file`, and what a call refuses
pub mod AskedWays
-- a literal over a small room, and then over what is lent: `write`, `one_chunk` and `single` of src/one_literal.rt
pub mod WriteWays
