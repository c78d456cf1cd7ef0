pub mod Events
pub mod Alike
pub mod Kept
pub mod Answers
pub mod Laws
