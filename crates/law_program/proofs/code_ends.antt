mod Strides
mod Turns
mod Fitting
mod Outside
mod Runs
pub mod Ends
