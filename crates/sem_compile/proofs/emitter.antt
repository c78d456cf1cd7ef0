pub mod Doing
pub mod Operating
pub mod Expressions
