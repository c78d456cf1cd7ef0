pub mod Fields
pub use Rattle.pt_text_operations.specs as pt_text_operations
