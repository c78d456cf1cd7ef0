pub mod free_names
pub mod piece_names
pub mod free_pieces
pub use Rattle.law_files.specs as law_files
