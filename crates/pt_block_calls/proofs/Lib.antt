mod BlockLemmas
pub mod AskLemmas
mod HelperLemmas
pub use Rattle.pt_operators.proofs as pt_operators
pub use Rattle.pt_function_rows.proofs as pt_function_rows
pub use Rattle.pt_class_rows.proofs as pt_class_rows
