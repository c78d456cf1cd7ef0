pub mod Acts
pub mod Laws
pub use Rattle.pt_turning.specs.pt_telling.pt_run_state.pt_purposes.sem_rows.pt_host as pt_host
pub use Rattle.pt_turning.specs.pt_telling.pt_run_state.pt_purposes as pt_purposes
pub use Rattle.pt_turning.specs.pt_telling.pt_transfers.pt_machine_state as pt_machine_state
pub use Rattle.pt_turning.specs.pt_telling.pt_run_state as pt_run_state
pub use Rattle.pt_turning.specs.pt_telling as pt_telling
pub use Rattle.pt_turning.specs as pt_turning
pub use Rattle.pt_turning.specs.pt_asking as pt_asking
pub use Rattle.pt_turning.specs.sem_rows as sem_rows
