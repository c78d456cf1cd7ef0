pub mod Limits
pub mod CodeRefusals
pub mod Status
pub mod LogText
pub mod RunEnds
pub mod Answer
pub mod Counted
pub use Rattle.pt_run_script.specs as pt_run_script
