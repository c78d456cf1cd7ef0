pub mod Ending
pub mod Laws
pub use Rattle.pt_beginning.specs.pt_host as pt_host
pub use Rattle.pt_beginning.specs.pt_purposes as pt_purposes
pub use Rattle.pt_beginning.specs.pt_turning as pt_turning
pub use Rattle.pt_beginning.specs.pt_asking as pt_asking
pub use Rattle.pt_beginning.specs.sem_rows as sem_rows
pub use Rattle.pt_beginning.specs as pt_beginning
