pub mod Stands
pub mod Advances
pub use Rattle.pt_purposes.specs as pt_purposes
pub use Rattle.pt_transfers.specs.pt_machine_state as pt_machine_state
pub use Rattle.pt_purposes.specs.sem_rows as sem_rows
pub use Rattle.pt_transfers.specs as pt_transfers
