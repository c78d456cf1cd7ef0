pub mod MarkLemmas
pub mod IdLemmas
pub mod PairLemmas
pub mod ReachLemmas
