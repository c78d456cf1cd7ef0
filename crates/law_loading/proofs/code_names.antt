pub mod Instructions
pub mod Blocks
