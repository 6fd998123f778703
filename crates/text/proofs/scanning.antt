-- What the scanner sees and how far it goes: the functions of src/class.rt, src/block.rt and src/scanner.rt.

-- the masks of the named tests, each checked by computing its test over all of ASCII
pub mod Masks
-- what the scanner sees at a place
pub mod Seen
-- what the scanner sees where a text stands in a longer one
pub mod LongerText
-- how far a scanner goes, character by character and, where only ASCII decides, byte by byte
pub mod Skip
-- a character that is seen, and where a scan stops
pub mod Characters
-- stretches of text without a byte of a set, and the first place of a byte
pub mod Blocks
-- the loops that go over bytes of ASCII by comparisons
pub mod AsciiLoops
