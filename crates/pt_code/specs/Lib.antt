pub mod File
pub mod Reading
pub mod Refusals
pub mod View
