pub mod Content
pub mod Turns
pub mod Turning
