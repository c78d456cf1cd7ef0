pub mod Behind
pub mod Loops
pub mod Laws
