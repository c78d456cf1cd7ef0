pub mod Coming
pub mod Lying
pub mod Leading
pub mod Arriving
pub mod Exits
pub mod Reached
