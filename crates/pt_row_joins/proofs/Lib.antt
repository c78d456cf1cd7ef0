pub mod Lists
pub mod Ranks
mod Loops
mod Chains
