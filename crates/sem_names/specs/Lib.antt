pub mod Nexts
pub mod Regions
pub mod Script
pub mod Naming
pub mod BlockNames
pub mod Around
pub mod Laws
