pub mod Returns
pub use Rattle.pt_opening.proofs.pt_telling as pt_telling
pub use Rattle.pt_opening.proofs.pt_turning as pt_turning
pub use Rattle.pt_opening.proofs as pt_opening
