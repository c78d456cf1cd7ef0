pub mod Around
pub mod Entries
pub mod Tells
pub mod Asks
pub use Rattle.pt_tracing.proofs.pt_transfers as pt_transfers
pub use Rattle.pt_tracing.proofs.pt_run_state as pt_run_state
pub use Rattle.pt_tracing.proofs as pt_tracing
