pub mod Chaining
pub mod Entering
pub mod Coming
pub mod Falling
pub mod Drawing
pub mod Short
