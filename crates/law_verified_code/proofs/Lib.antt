mod Tables
pub mod Verified
