pub mod Ways
pub mod Turning
pub mod Laws
pub use Rattle.pt_telling.specs as pt_telling
pub use Rattle.pt_telling.specs.pt_asking as pt_asking
pub use Rattle.pt_telling.specs.sem_rows as sem_rows
