pub mod Layout
pub mod Number
pub mod Repr
pub mod Spec
