pub mod Resumptions
pub mod Views
pub mod Laws
