pub mod rows
pub mod code_machine
