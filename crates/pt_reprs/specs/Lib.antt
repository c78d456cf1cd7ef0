pub mod Shown
pub mod Reached
pub mod Marks
pub mod Pieces
pub mod Reprs
pub mod Texts
