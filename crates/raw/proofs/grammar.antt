-- The laws of each reader of specs/Grammar.antt, and what they say of a whole file.

-- the order of rows that 01's rules ask
pub mod RowOrder
-- where a reader refuses with 3, no value begins
pub mod Early
-- all laws of a reader in one record, which the ways to make readers preserve
pub mod Laws
-- readers that refuse with `UnexpectedEof`
pub mod UnexpectedEof
-- the laws of each reader, in the grammar's order
pub mod Readers
-- readers without rows: their answer, by the step that the code answers
pub mod Rowless
-- the word that an entry's type spells
pub mod Spells
-- the laws of an entry
pub mod Entries
-- the laws of the file, and what they say of its rows and of a refusal
pub mod Files
-- the culprit of a refusal
pub mod Culprits
