pub mod Ranges
pub mod Verdicts
pub mod Landings
pub mod Cuts
pub mod After
pub mod Alike
