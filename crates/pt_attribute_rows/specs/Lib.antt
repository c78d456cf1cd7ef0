pub mod Attributes
pub mod Imports
