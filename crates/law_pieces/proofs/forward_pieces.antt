pub mod Places
pub mod InOrder
pub mod Expressions
pub mod Statements
