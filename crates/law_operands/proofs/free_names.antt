pub mod Distinct
pub mod Kept
pub mod Listing
pub mod Begun
pub mod Outwards
pub mod Among
pub mod Searches
pub mod Taken
mod Backwards
pub mod Own
pub mod Lookups
