pub mod Digits
pub mod Seven
pub mod Answer
pub mod Pack
pub mod Unpack
pub mod RoundTrip
pub mod Refusals
