pub use Rattle.sem_compile.proofs as sem_compile
