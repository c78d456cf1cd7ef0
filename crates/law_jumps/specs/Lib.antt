pub mod reached_acts
pub mod start_nests
pub mod script_act_parts
pub mod script_acts
pub mod text_parts
pub mod filled_nests
pub mod acts_in_parts
pub mod text_runs
pub use Rattle.law_compile.specs as law_compile
pub use Rattle.law_code_jumps.specs as law_code_jumps
