pub mod Above
pub mod Expressions
pub mod Statements
pub mod Marks
