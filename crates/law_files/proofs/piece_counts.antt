pub mod Forms
mod Operations
mod Expressions
pub mod Statements
