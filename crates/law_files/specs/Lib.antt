pub mod code_files
pub mod piece_counts
pub mod operands_fit
pub use Rattle.sem_compile.specs as sem_compile
