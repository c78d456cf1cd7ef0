pub mod Numbering
pub mod Classes
