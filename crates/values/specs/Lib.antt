pub mod Field
pub mod OwnRows
pub mod EnoughText
pub mod Uses
pub mod NameUses
pub mod Refusals
pub mod OnlyLiteral
