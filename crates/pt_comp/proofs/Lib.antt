pub mod Starts
pub mod Bodies
pub mod Rules
