pub mod Raising
pub mod Laws
pub use Rattle.pt_closing.specs.pt_host as pt_host
pub use Rattle.pt_closing.specs.pt_purposes as pt_purposes
pub use Rattle.pt_closing.specs.pt_turning as pt_turning
pub use Rattle.pt_closing.specs.sem_rows as sem_rows
pub use Rattle.pt_closing.specs as pt_closing
