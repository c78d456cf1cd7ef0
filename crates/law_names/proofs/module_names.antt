pub mod Homes
pub mod Variables
pub mod Counts
pub mod Makers
pub mod Classes
pub mod Taken
