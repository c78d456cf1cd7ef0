mod Ways
mod Expressions
pub mod Statements
