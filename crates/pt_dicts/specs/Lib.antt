pub mod Adding
pub mod Chain
pub mod Codes
pub mod Combine
pub mod Keys
