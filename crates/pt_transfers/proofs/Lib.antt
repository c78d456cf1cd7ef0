pub mod PieceLemmas
pub mod EntryLemmas
pub mod VisibleLemmas
pub use Rattle.pt_machine_state.proofs as pt_machine_state
