pub mod Outline
pub mod Docstrings
pub mod Parts
