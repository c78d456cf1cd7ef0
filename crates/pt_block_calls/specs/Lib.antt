pub mod BlockCalls
pub use Rattle.pt_class_rows.specs as pt_class_rows
pub use Rattle.pt_function_rows.specs as pt_function_rows
pub use Rattle.pt_operators.specs as pt_operators
