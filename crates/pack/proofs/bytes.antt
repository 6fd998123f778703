-- Rows as bytes: laws of the definitions.

-- a number and its digits, for any base and any number of digits
pub mod Digits
-- bytes taken as rows, seven to a row
pub mod SevenBytes
-- what it means that numbers are packable and that bytes are unpackable
pub mod AcceptedInput
-- packing and unpacking undo each other
pub mod Inverse
