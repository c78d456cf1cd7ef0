pub mod Resuming
pub mod Laws
