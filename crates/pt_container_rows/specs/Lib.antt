pub mod Operands
pub mod Answers
pub mod Rows
