pub mod Gathering
pub mod Onto
pub mod Tables
pub mod Holding
pub mod Search
pub mod Held
pub mod Lacks
