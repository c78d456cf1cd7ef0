mod Blocks
mod Nests
pub mod Scripts
