pub use Rattle.pt_purposes.proofs as pt_purposes
pub use Rattle.pt_transfers.proofs as pt_transfers
