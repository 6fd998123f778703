-- Content cuts no character in two: from a boundary of a text that is UTF-8, every turn emits texts that are UTF-8 and ends at a boundary. And
-- what it emits has at most twice the bytes that it has read.

-- parts of a text between boundaries
pub mod Pieces
-- what parts come to: the texts and sizes of their chunks
pub mod PartsToChunks
-- a way through a text and the parts that it emits; and that readers made of such readers go such ways too
pub mod Moves
-- what a turn does at each kind of character is such a way
pub mod TurnMoves
-- content is such a way
pub mod ContentMoves
-- rows of chunks whose texts are UTF-8 pass the check
pub mod RowRanges
