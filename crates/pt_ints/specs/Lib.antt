pub mod Answer
pub mod Integers
pub mod Law
