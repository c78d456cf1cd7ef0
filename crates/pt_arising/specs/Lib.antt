pub mod Arising
pub mod Laws
pub use Rattle.pt_replying.specs as pt_replying
pub use Rattle.pt_replying.specs.pt_opening as pt_opening
