pub mod Sequences
pub mod Arithmetic
pub mod InPlace
pub mod Classes
pub mod AttributeCalls
pub mod IntegerTexts
pub mod Hidden
pub mod Calls
pub mod Subscripts
pub mod Spreads
pub mod Operations
pub mod Updates
pub mod Laws
pub use Rattle.pt_methods.specs as pt_methods
pub use Rattle.pt_special_methods.specs as pt_special_methods
