pub mod Tables
pub mod Theory
mod Landings
mod Going
mod Adding
mod Telling
mod LowLemmas
