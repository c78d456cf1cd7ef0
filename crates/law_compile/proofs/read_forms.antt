mod Formed
mod ClassName
pub mod Texts
