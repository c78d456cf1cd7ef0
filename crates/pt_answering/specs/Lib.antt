pub mod Answering
pub mod Laws
pub use Rattle.pt_arising.specs.pt_replying as pt_replying
pub use Rattle.pt_arising.specs as pt_arising
pub use Rattle.pt_arising.specs.pt_opening as pt_opening
