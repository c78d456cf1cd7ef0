pub mod Fails
pub use Rattle.pt_answering.proofs.pt_arising as pt_arising
pub use Rattle.pt_answering.proofs.pt_opening as pt_opening
pub use Rattle.pt_answering.proofs as pt_answering
