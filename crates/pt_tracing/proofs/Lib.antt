pub mod Keeps
pub use Rattle.pt_run_state.proofs.pt_transfers as pt_transfers
pub use Rattle.pt_run_state.proofs.pt_purposes as pt_purposes
pub use Rattle.pt_run_state.proofs as pt_run_state
