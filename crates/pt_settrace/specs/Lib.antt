pub mod Frames
pub mod Tracing
pub mod Laws
