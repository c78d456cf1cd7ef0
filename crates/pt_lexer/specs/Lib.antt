pub mod Columns
pub mod Faults
pub mod Lines
pub mod Progress
pub mod Shape
pub mod Words
