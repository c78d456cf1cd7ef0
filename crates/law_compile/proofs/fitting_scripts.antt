mod Rows
pub mod Fitting
