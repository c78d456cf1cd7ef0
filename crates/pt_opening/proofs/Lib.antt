pub mod Opens
pub use Rattle.pt_hearing.proofs.pt_telling as pt_telling
pub use Rattle.pt_hearing.proofs.pt_turning as pt_turning
pub use Rattle.pt_hearing.proofs as pt_hearing
