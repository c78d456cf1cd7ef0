mod AroundLemmas
mod OutwardsLemmas
pub mod TakenLemmas
pub mod ClassLemmas
