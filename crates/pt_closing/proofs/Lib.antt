pub mod Ending
pub use Rattle.pt_beginning.proofs.pt_machine_state as pt_machine_state
pub use Rattle.pt_beginning.proofs.pt_tracing as pt_tracing
pub use Rattle.pt_beginning.proofs.pt_telling as pt_telling
pub use Rattle.pt_beginning.proofs.pt_turning as pt_turning
pub use Rattle.pt_beginning.proofs as pt_beginning
