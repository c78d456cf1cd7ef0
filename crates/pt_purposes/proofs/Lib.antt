pub mod Seeing
pub mod Doing
