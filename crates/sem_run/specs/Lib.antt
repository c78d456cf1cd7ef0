pub mod run
pub mod transitions
