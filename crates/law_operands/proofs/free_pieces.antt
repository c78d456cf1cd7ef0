pub mod Operands
pub mod Blocks
mod Expressions
mod Statements
pub mod Script
