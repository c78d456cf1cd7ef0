pub mod Calls
pub mod Foretelling
pub mod Laws
