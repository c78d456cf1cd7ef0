pub mod TakeLemmas
pub mod MoveLemmas
pub mod ConstantLemmas
pub mod BranchLemmas
pub use Rattle.sem_rows.proofs as sem_rows
