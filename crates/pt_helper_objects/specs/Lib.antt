pub mod Objects
pub use Rattle.pt_prelude.specs as pt_prelude
