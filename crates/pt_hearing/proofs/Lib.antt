pub mod Raises
pub use Rattle.pt_closing.proofs.pt_tracing.pt_purposes as pt_purposes
pub use Rattle.pt_closing.proofs.pt_telling as pt_telling
pub use Rattle.pt_closing.proofs.pt_turning as pt_turning
pub use Rattle.pt_closing.proofs as pt_closing
