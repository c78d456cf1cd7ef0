pub mod Members
pub mod Methods
pub mod Operators
