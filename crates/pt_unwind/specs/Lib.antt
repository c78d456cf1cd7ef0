pub mod Landings
pub mod Steps
