pub mod code_ends
pub mod program_runs
pub mod script_files
pub mod exec_answers
pub mod reports
