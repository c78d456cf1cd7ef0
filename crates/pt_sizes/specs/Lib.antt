pub mod Flow
pub mod Search
pub mod Waiting
pub mod Lows
