pub mod Lines
pub mod FirstLine
pub mod Chain
pub mod Summaries
pub mod Texts
