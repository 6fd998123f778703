-- One law for each way through a function, over what its calls answered. The proofs of the functions supply the paths.

-- loops of the code go by bytes, and turns of the grammar by characters: they agree, because only ASCII decides
pub mod ByteLoops
-- the turns of `quoted`, `number` and `in_braces`, byte by byte
pub mod ByteTurns
-- the loops of `in_braces` and `quoted` over blocks of bytes
pub mod BlockLoops
-- readers that look at one character, by what the code saw of it
pub mod OneCharacter
-- the functions of src/token.rt, by what the scanner answered
pub mod TokenWays
-- a literal between two delimiters: `string_literal` and `braced`
pub mod DelimitedLiteral
-- the elements of a value: `abbr_element` and `abbr_turn`
pub mod ElementWays
-- an element that begins with a brace or a quote
pub mod DelimitedElement
-- `field`, `field_end` and `fields_turn`
pub mod FieldWays
-- the spelling of an entry's type, byte by byte
pub mod SpellingBytes
-- the functions of src/entry.rt
pub mod EntryWays
-- the functions of src/file.rt
pub mod FileWays
