pub mod Texts
pub mod Loaded
pub mod Starting
pub use Rattle.pt_code_tables.specs as pt_code_tables
