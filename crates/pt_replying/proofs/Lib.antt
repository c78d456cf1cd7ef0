pub mod Goes
pub mod Replies
pub use Rattle.pt_returning.proofs.pt_turning as pt_turning
pub use Rattle.pt_returning.proofs.pt_opening as pt_opening
pub use Rattle.pt_returning.proofs as pt_returning
