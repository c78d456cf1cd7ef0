pub mod jump_answers
pub mod told_code
pub mod bare_runs
