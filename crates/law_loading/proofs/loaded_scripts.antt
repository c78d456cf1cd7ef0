pub mod Lists
pub mod Tables
pub mod Loading
pub mod Texts
