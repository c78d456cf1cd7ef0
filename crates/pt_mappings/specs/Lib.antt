pub mod Keyed
pub mod Entering
pub mod Items
pub mod Methods
