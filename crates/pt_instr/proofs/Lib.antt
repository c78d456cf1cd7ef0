pub mod Codec
pub mod Numbers
