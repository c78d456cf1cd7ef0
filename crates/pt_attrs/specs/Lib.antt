pub mod Look
pub mod Store
pub mod Unbuilt
pub use Rattle.pt_dicts.specs as pt_dicts
