mod Expressions
mod Wider
pub mod Statements
