pub mod Slots
pub mod Activations
pub mod Lending
pub mod Limits
