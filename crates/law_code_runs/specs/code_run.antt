pub mod CodeMachine
pub mod Reached
pub mod Parts
pub mod Law
