pub mod Next
pub mod Marks
pub mod Moves
pub mod Extras
