pub mod Steps
pub mod BareRuns
pub mod NeverStuck
