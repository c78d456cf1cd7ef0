pub mod InOrder
pub mod Alike
