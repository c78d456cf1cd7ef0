pub mod CodeProgram
pub mod Laws
