pub mod JoinLemmas
pub use Rattle.pt_runner.proofs as pt_runner
pub use Rattle.law_loading.proofs as law_loading
