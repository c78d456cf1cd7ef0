pub mod EqualityLemmas
pub mod OrderLemmas
