pub mod Telling
pub mod Asks
pub mod Laws
pub use Rattle.pt_tracing.specs.pt_transfers as pt_transfers
pub use Rattle.pt_tracing.specs.pt_run_state as pt_run_state
pub use Rattle.pt_asking.specs as pt_asking
pub use Rattle.pt_tracing.specs.sem_rows as sem_rows
pub use Rattle.pt_tracing.specs as pt_tracing
