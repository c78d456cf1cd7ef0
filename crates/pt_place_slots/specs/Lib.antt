pub mod Lists
pub mod Kinds
pub mod Tables
pub mod Laws
