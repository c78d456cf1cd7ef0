pub mod Active
pub mod Raises
pub use Rattle.pt_failing.proofs.pt_arising.pt_replying.pt_turning.pt_tracing.pt_purposes as pt_purposes
pub use Rattle.pt_failing.proofs.pt_arising.pt_replying.pt_turning.pt_telling as pt_telling
pub use Rattle.pt_failing.proofs.pt_arising.pt_replying.pt_turning as pt_turning
pub use Rattle.pt_failing.proofs.pt_opening as pt_opening
pub use Rattle.pt_failing.proofs.pt_arising as pt_arising
pub use Rattle.pt_failing.proofs as pt_failing
pub use Rattle.pt_failing.proofs.pt_answering as pt_answering
