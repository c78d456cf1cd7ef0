pub mod Begins
pub use Rattle.pt_turning.proofs.pt_telling.pt_transfers.pt_machine_state as pt_machine_state
pub use Rattle.pt_turning.proofs.pt_tracing as pt_tracing
pub use Rattle.pt_turning.proofs.pt_telling as pt_telling
pub use Rattle.pt_turning.proofs as pt_turning
