pub mod LeaveLemmas
pub mod ProbeLemmas
pub mod ErrorLemmas
pub mod LawLemmas
