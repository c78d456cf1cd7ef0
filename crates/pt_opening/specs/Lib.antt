pub mod Opening
pub mod Laws
pub use Rattle.pt_hearing.specs.pt_host as pt_host
pub use Rattle.pt_hearing.specs.pt_purposes as pt_purposes
pub use Rattle.pt_hearing.specs.pt_turning.pt_telling.pt_run_state as pt_run_state
pub use Rattle.pt_hearing.specs.sem_rows as sem_rows
pub use Rattle.pt_hearing.specs.pt_turning.pt_asking as pt_asking
pub use Rattle.pt_hearing.specs.pt_turning.pt_telling as pt_telling
pub use Rattle.pt_hearing.specs.pt_turning as pt_turning
pub use Rattle.pt_hearing.specs as pt_hearing
