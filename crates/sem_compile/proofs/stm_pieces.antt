pub mod Doing
pub mod Targets
pub mod Statements
pub mod Blocks
pub mod Plain
pub mod Fitting
pub mod Rising
