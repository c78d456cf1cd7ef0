pub mod Verbs
pub mod Parts
pub mod Numbers
pub mod Commands
pub mod Laws
