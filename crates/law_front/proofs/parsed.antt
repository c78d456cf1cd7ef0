mod Fine
mod Ways
mod Expressions
pub mod Statements
