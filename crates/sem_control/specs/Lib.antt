pub mod control
pub mod numbering
