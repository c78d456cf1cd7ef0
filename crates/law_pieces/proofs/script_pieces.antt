mod Expressions
mod Placed
pub mod Statements
pub mod Cells
