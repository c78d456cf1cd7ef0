pub mod Blocks
pub mod Counts
pub mod Fitting
pub mod Steps
pub mod Yields
