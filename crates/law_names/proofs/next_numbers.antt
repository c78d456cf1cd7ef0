pub mod Claims
mod Regions
pub mod Expressions
pub mod Statements
pub mod Found
