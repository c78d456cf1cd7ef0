pub mod Stores
pub mod StarredCells
pub mod ObjectNames
pub mod Answers
pub mod Turns
pub mod Strides
pub mod Runs
pub mod Start
