pub mod Rows
pub mod StopLaws
pub mod TurnLaws
pub mod Turns
