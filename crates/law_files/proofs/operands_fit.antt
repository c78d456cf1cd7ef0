mod Places
mod Layouts
mod Blocks
pub mod Operands
