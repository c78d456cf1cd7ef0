pub mod RoleLemmas
pub mod SlotLemmas
pub use Rattle.sem_compile.proofs as sem_compile
