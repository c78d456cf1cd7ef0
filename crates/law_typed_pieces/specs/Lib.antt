pub mod typed_pieces
pub mod start_lines
pub mod agreement
pub mod leave_targets
pub mod silent_loops
pub mod statement_starts
pub mod script_tables
pub mod script_loops
pub mod standing_pieces
pub use Rattle.law_operands.specs as law_operands
