pub mod Syntax
pub mod Refusals
pub mod Text
