pub mod Breakpoints
pub mod Effective
pub mod Stops
pub mod Laws
