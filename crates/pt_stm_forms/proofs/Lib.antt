pub mod StatementActs
pub mod SimpleForms
pub mod CompoundForms
pub mod ContextForms
pub mod TryForms
pub mod BlockForms
