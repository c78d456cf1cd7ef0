pub mod code_run
pub mod code_follows
