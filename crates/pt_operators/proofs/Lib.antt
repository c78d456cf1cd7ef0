pub mod OperatorLemmas
pub use Rattle.pt_moves.proofs as pt_moves
