pub mod Calls
pub mod Instances
pub mod Supers
pub mod Classes
pub use Rattle.pt_function_rows.specs as pt_function_rows
