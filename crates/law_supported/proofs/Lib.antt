mod Plain
pub mod Homes
mod Shown
mod Owned
mod Listed
pub mod Written
pub mod Different
