-- Texts that are read and written octet by octet.

-- octets put into lent bytes
pub mod Puts
-- bytes of a text copied over lent bytes
pub mod Copies
-- the last character of a text, sought from its end
pub mod LastCharacter
-- the characters of a text
pub mod Decoded
-- runs of ASCII without line ends
pub mod PlainRuns
-- runs of characters that lowering changes by ASCII's rule alone
pub mod QuietRuns
-- one character, encoded into four bytes and copied from there
pub mod Encodes
-- a Normal text, run by run between its line ends
pub mod LineEnds
-- characters that are escaped
pub mod Escapes
-- sequences that the writers write unchanged
pub mod PassedSequences
