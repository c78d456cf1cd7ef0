pub mod DepthLemmas
pub mod TextLemmas
pub mod BlockLemmas
pub mod StartLemmas
pub use Rattle.pt_code_tables.proofs as pt_code_tables
