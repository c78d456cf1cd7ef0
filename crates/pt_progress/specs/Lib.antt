pub mod Arising
pub mod Making
pub mod Taking
