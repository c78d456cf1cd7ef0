mod Arguments
pub mod Standing
pub mod Own
mod Bound
mod Quiet
mod Expressions
mod Statements
pub mod Script
