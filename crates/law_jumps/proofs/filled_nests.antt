mod Leaves
mod Numbers
mod Exits
mod Loops
mod Filling
pub mod Reached
