pub mod DrainLemmas
pub mod AdvanceLemmas
pub mod GoesTo
pub mod CountLemmas
pub mod RunLemmas
