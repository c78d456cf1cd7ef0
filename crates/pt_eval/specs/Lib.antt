pub mod Scratch
pub mod Steps
pub mod NoValues
pub mod Names
pub mod Purity
pub mod Evaluation
pub mod Answers
