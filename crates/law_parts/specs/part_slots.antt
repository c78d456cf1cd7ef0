pub mod Slots
pub mod Parts
pub mod Text
pub mod Laws
