pub mod Staying
pub mod Placing
pub mod Refusing
