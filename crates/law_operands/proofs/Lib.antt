pub use Rattle.law_files.proofs as law_files
