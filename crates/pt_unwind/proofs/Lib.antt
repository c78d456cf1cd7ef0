pub mod LandingLemmas
pub mod StepLemmas
