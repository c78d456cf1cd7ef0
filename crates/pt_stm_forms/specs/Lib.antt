pub mod Simple
pub mod Compound
pub mod Blocks
