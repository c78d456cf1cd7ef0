mod PlainAsks
pub mod Runs
