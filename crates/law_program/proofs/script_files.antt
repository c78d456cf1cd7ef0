mod Numbers
mod Named
pub mod Supported
pub mod Programs
pub mod Runs
