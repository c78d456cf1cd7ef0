pub mod Characters
pub mod Expressions
pub mod Identifiers
pub mod Names
pub mod Statements
pub mod Ways
pub mod Words
