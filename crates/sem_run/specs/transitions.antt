pub mod Transitions
pub mod Successors
pub mod Laws
