pub mod Slots
pub mod Targets
