pub mod Coming
pub mod Sizes
