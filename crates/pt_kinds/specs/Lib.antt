pub mod Known
pub mod Forest
pub mod Common
