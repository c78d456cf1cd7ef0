pub mod Raised
pub mod Matched
