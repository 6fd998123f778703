-- Where a file is cut, and what a cut does to strict reading.

-- the pieces of two texts put together, and salvage of them
pub mod PiecesAppend
-- the pieces of a text that is UTF-8 are UTF-8
pub mod Utf8OfPieces
-- where a scan of white space or of a comment ends
pub mod ScanEnd
-- a turn of strict reading that ends before a cut answers the same with the cut and without
pub mod TurnBeforeCut
-- strict reading of two texts put together at a cut: what it says of the whole and of both
pub mod ReadingAcrossCut
-- the first piece of a text and the rest; boundaries; what strict reading opens at them
pub mod Boundaries
-- pieces begin at the boundaries and nowhere else
pub mod PiecesAtBoundaries
