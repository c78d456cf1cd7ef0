pub mod Instances
pub mod Refusals
pub mod Given
pub mod Containers
pub use Rattle.pt_reprs.specs as pt_reprs
