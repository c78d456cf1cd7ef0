pub mod Ends
pub mod Work
pub mod Advancing
pub mod Runs
