pub mod Quietly
pub mod Turning
