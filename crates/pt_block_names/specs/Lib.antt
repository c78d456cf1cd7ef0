pub mod Tells
pub mod Named
