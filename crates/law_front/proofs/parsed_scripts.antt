mod Parts
mod Expressions
pub mod Statements
