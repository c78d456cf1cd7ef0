pub mod Writing
pub mod Blocks
pub mod Views
pub mod Strode
pub mod Changes
pub mod Applies
pub mod Laws
pub use Rattle.pt_code_facts.specs as pt_code_facts
