pub mod TakeLemmas
pub mod ArgumentLemmas
pub mod OpeningLemmas
mod FunctionLemmas
mod AttributeLemmas
