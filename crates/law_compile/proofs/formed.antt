pub mod Arguments
pub mod Statements
pub mod Blocks
