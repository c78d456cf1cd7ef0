pub mod Moves
pub mod InOrder
