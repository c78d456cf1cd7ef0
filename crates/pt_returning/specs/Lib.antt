pub mod Returning
pub mod Laws
pub use Rattle.pt_opening.specs.pt_host as pt_host
pub use Rattle.pt_opening.specs.pt_purposes as pt_purposes
pub use Rattle.pt_opening.specs.pt_turning as pt_turning
pub use Rattle.pt_opening.specs as pt_opening
