mod Successors
mod Relation
mod Strides
pub mod Runs
mod Stuck
pub mod Writes
pub mod Coded
pub mod Plain
pub use Rattle.law_code_runs.proofs as law_code_runs
