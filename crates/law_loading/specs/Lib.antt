pub mod script_program
pub mod loaded_scripts
pub mod code_names
pub mod code_program
pub use Rattle.pt_code_loader.specs as pt_code_loader
