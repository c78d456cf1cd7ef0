pub mod Changed
pub mod Items
pub mod Changes
