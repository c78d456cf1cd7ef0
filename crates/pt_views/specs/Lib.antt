pub mod Cursors
pub mod Unpacking
pub use Rattle.pt_mappings.specs as pt_mappings
pub use Rattle.pt_sequences.specs as pt_sequences
pub use Rattle.pt_sets.specs as pt_sets
