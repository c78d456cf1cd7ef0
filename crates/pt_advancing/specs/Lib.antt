pub mod Lines
pub mod Proceeding
pub mod Advancing
pub mod Laws
pub use Rattle.pt_closing.specs as pt_closing
