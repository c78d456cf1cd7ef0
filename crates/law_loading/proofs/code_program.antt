pub mod Objects
pub mod Tables
pub mod Operands
pub mod Runs
