-- The values of a file, one behind the other.

-- what is written of values one behind the other: numbers, texts and counts
pub mod Appended
-- values that fit, and those in front of them
pub mod Fitting
-- the values row by row: what a row adds
pub mod RowByRow
