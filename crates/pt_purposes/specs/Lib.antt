pub mod Seen
pub mod Asks
pub mod Openers
pub mod Kept
pub mod Laws
pub use Rattle.sem_rows.specs as sem_rows
