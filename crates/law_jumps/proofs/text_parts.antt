mod Ways
mod Narrow
mod Blocks
mod Apart
pub mod Texts
