pub mod WriteLemmas
pub mod PlainLemmas
pub mod TurnLemmas
pub mod LandLemmas
pub mod ApplyLemmas
pub mod LineLemmas
pub mod FailLemmas
pub mod LeftLemmas
pub mod CallLemmas
pub mod CloseLemmas
pub mod TakeLemmas
pub mod StrideLemmas
pub mod AgainLemmas
pub use Rattle.pt_code_facts.proofs as pt_code_facts
