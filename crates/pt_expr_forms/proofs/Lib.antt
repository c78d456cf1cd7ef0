pub mod Acts
pub mod Counts
pub mod Forms
pub mod LoopForms
pub mod LoopSteps
pub mod SameCode
