pub mod Failing
pub mod Laws
pub use Rattle.pt_answering.specs.pt_arising as pt_arising
pub use Rattle.pt_answering.specs.pt_opening as pt_opening
pub use Rattle.pt_answering.specs as pt_answering
