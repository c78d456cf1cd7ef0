mod Blocks
pub mod Texts
