pub mod Turns
pub mod Alike
pub mod Law
pub use Rattle.law_code_runs.specs as law_code_runs
