pub mod NameLemmas
pub mod NumberedLemmas
pub use Rattle.sem_rows.proofs as sem_rows
