pub mod Named
pub mod Profiles
