pub mod Alike
pub mod Taking
