pub mod Landings
pub mod Laws
