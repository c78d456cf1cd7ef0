pub mod Gathers
pub mod Parts
pub mod Whole
pub mod Sized
pub mod Going
pub mod Blocks
pub mod Fewer
