pub mod FrontLemmas
pub mod Fronting
