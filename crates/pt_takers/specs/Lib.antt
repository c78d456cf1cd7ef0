pub mod Sides
pub mod Chains
pub mod Stretches
pub mod Numbers
pub mod Takers
