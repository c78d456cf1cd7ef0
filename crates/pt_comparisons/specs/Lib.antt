pub mod Truths
pub mod Equalities
pub mod Membership
pub mod Orders
pub mod Comparisons
pub use Rattle.pt_views.specs as pt_views
pub use Rattle.pt_reprs.specs as pt_reprs
pub use Rattle.pt_views.specs.pt_mappings as pt_mappings
pub use Rattle.pt_views.specs.pt_sets as pt_sets
pub use Rattle.pt_views.specs.pt_sequences as pt_sequences
