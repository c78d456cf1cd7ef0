pub mod Single
pub mod Search
