pub mod Bits
pub mod Keeping
pub mod ToolRows
pub mod Calls
pub mod Told
pub mod Exits
