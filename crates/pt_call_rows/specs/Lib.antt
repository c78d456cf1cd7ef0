pub mod CallRows
pub mod Roles
pub use Rattle.pt_block_calls.specs.pt_function_rows as pt_function_rows
pub use Rattle.pt_block_calls.specs.pt_class_rows as pt_class_rows
pub use Rattle.pt_block_calls.specs.pt_operators as pt_operators
pub use Rattle.pt_block_calls.specs as pt_block_calls
