pub mod Asked
pub mod Functions
pub mod Helpers
