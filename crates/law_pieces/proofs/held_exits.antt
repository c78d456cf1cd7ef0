mod Fits
mod Bases
mod Expressions
mod Statements
mod Turns
mod Landings
mod Tables
pub mod Holding
