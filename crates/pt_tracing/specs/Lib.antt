pub mod Answers
pub mod Laws
pub use Rattle.pt_run_state.specs.pt_machine_state as pt_machine_state
pub use Rattle.pt_run_state.specs.pt_purposes as pt_purposes
pub use Rattle.pt_run_state.specs as pt_run_state
pub use Rattle.pt_run_state.specs.sem_rows as sem_rows
pub use Rattle.pt_run_state.specs.pt_transfers as pt_transfers
