pub mod RunLemmas
pub mod JoinLemmas
pub use Rattle.pt_run_code.proofs as pt_run_code
