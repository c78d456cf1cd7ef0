pub mod NumberLemmas
pub mod SourceLemmas
