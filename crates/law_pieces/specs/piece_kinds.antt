pub mod Walk
pub mod Typed
pub mod Table
pub mod Exits
pub mod Laws
