pub mod OnlyPlace
pub mod OfCode
pub mod Turns
pub use Rattle.pt_telling.proofs as pt_telling
pub use Rattle.pt_telling.proofs.pt_tracing as pt_tracing
