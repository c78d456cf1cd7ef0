mod Roots
mod Linking
pub mod Joining
