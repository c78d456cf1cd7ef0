pub mod Lists
pub mod Steps
pub mod Operations
pub mod Sample
