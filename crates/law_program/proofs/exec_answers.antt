mod CodeRefusals
pub mod CodeFiles
pub mod Ends
pub mod Answers
