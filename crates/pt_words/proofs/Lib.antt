pub mod NumberLemmas
pub mod Rows
pub mod Rules
pub mod Walking
pub mod ReaderLemmas
pub mod CommandLemmas
