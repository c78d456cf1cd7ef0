pub mod Tables
pub mod Walks
pub mod Cutting
pub mod Following
pub mod Visiting
pub mod Closing
pub mod Stepping
pub mod Ranking
