pub mod Entries
pub mod Holes
pub mod Limits
pub mod Seeds
pub mod Sound
