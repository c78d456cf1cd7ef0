pub mod Operands
pub use Rattle.sem_rows.specs as sem_rows
