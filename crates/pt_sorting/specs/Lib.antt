pub mod Keys
pub mod Sorting
pub use Rattle.pt_comparisons.specs as pt_comparisons
