pub mod Answers
pub mod Jumps
pub mod Positions
pub mod Arguments
pub mod CommandLines
