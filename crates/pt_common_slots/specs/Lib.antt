pub mod Joins
pub mod Common
pub mod Laws
pub mod Held
