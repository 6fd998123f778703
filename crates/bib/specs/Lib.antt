pub mod Export
pub mod Packs
pub mod EnoughRoom
