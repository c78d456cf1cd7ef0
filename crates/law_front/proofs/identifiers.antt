mod Characters
mod Texts
pub mod Words
