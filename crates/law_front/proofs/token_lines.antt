mod Spots
mod Words
pub mod Rising
pub mod Tokens
