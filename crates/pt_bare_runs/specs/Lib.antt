pub mod Strides
pub mod Laws
