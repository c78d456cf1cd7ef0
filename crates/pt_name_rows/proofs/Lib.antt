pub mod DotLemmas
pub mod AskLemmas
pub mod LocalLemmas
pub mod CellLemmas
pub mod GlobalLemmas
pub mod NameLemmas
pub use Rattle.pt_moves.proofs as pt_moves
