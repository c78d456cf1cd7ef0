mod Beginnings
mod States
mod Jumps
mod Leads
pub mod Following
pub mod Fronts
