pub mod OperationRows
pub mod Branches
pub use Rattle.pt_call_rows.specs as pt_call_rows
