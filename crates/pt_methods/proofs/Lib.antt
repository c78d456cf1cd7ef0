pub mod SearchLemmas
pub mod NumberLemmas
