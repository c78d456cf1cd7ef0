pub mod Counting
pub mod Lengths
pub mod Expressions
pub mod Statements
pub mod Scripts
