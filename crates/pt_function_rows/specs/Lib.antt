pub mod Operands
pub mod Arguments
pub mod Openings
pub mod FunctionRows
pub mod Attributes
pub use Rattle.pt_code_facts.specs as pt_code_facts
