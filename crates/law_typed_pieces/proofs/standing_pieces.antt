mod Placed
mod Walked
mod Operations
mod Expressions
mod Statements
mod Laid
pub mod Script
