pub mod Never
pub mod Quiet
pub mod Silent
pub mod Walk
