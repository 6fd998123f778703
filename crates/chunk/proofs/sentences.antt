-- Sentence case.

-- a Normal text in sentence case, part by part
pub mod Said
-- one octet of it
pub mod Steps
-- the loop that writes it
pub mod Saying
-- how many octets chunks have in sentence case, at most, and that they are UTF-8
pub mod Sizes
