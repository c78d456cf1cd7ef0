pub mod RunNames
pub mod Operands
pub mod Laws
