pub mod Functions
pub mod Changes
pub mod Operands
pub mod Classes
pub mod TypeErrors
pub use Rattle.pt_attrs.specs as pt_attrs
