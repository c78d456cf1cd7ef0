pub mod Strides
pub mod Groups
pub mod Performing
pub mod FastStrides
pub use Rattle.law_frames.specs as law_frames
pub use Rattle.pt_code_tables.specs as pt_code_tables
