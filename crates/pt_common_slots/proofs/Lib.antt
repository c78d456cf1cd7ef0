mod Lists
mod Low
pub mod Law
mod OwnLemmas
mod Loops
mod Assembly
mod HeldLaw
