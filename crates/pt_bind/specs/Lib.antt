pub mod NameSets
pub mod Binding
