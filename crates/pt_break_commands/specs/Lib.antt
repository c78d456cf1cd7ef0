pub mod BreakCommands
