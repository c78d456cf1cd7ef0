pub mod Arises
pub use Rattle.pt_replying.proofs as pt_replying
pub use Rattle.pt_replying.proofs.pt_opening as pt_opening
