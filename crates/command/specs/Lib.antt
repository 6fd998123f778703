pub mod Stack
pub mod Commands
pub mod Execute
pub mod Names
pub mod LastCharacter
pub mod WellFormed
