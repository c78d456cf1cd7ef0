pub mod Coming
pub mod Script
