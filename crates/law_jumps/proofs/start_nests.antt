mod Fronts
mod Contexts
mod Nests
mod Handlers
mod Walks
mod Keys
mod Blocks
pub mod Scripts
