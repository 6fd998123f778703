-- Laws of readers and of the ways to make them (specs/Reader.antt), lowest first.

-- what every reader keeps to: it goes forward, stays inside the text, and answers the same on a text that shows the same
pub mod Kept
-- one reader after another, and a row over what is read
pub mod Then
-- how a reader goes through a text, character by character, and where its rows stand
pub mod Trace
-- what a trace tells of places and rows
pub mod Spans
-- loops: the fuel never runs out, and a loop keeps what its turns keep
pub mod Loop
-- behind another text a reader gives the same answer, with its places moved
pub mod Shifts
-- points of a reading: how many bytes were eaten, which of them pay for rows, and which rows may come
pub mod Points
-- a scan of the grammar ends where the scanner's `skip` does
pub mod Scans
