pub mod ReachLemmas
pub mod PieceLemmas
pub mod TextLemmas
