pub mod Numbered
pub mod Facts
pub use Rattle.sem_rows.specs as sem_rows
