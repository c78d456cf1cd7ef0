pub mod Reading
pub mod Sample
pub mod Settled
pub mod Whole
