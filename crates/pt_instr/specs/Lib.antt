pub mod Decoding
pub mod Effects
pub mod Encoding
pub mod Names
pub mod Runs
