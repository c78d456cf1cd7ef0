pub mod Exits
pub mod Loops
pub mod Pieces
pub mod Readers
pub mod SampleLemmas
pub mod Wholes
