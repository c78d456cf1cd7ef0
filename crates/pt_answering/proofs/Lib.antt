pub mod OnlyPlace
pub mod Answers
pub use Rattle.pt_arising.proofs.pt_replying.pt_turning.pt_telling.pt_transfers.pt_machine_state as pt_machine_state
pub use Rattle.pt_arising.proofs.pt_replying.pt_turning.pt_tracing.pt_purposes as pt_purposes
pub use Rattle.pt_arising.proofs.pt_replying.pt_turning.pt_telling as pt_telling
pub use Rattle.pt_arising.proofs as pt_arising
pub use Rattle.pt_arising.proofs.pt_opening as pt_opening
