pub mod Literals
pub mod Numbers
pub mod Source
pub mod Strings
