pub mod EdgeLists
pub mod Flow
pub mod Search
