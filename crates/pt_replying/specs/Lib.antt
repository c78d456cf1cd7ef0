pub mod Replying
pub mod Laws
pub use Rattle.pt_returning.specs.pt_turning as pt_turning
pub use Rattle.pt_returning.specs.pt_opening as pt_opening
pub use Rattle.pt_returning.specs as pt_returning
