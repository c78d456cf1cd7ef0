pub mod Names
pub mod Attributes
pub mod Searches
pub mod Lists
pub mod Methods
pub use Rattle.pt_list_changes.specs as pt_list_changes
pub use Rattle.pt_fields.specs as pt_fields
pub use Rattle.pt_fields.specs.pt_text_operations as pt_text_operations
pub use Rattle.pt_comparisons.specs as pt_comparisons
pub use Rattle.pt_comparisons.specs.pt_views as pt_views
pub use Rattle.pt_comparisons.specs.pt_reprs as pt_reprs
pub use Rattle.pt_comparisons.specs.pt_mappings as pt_mappings
pub use Rattle.pt_comparisons.specs.pt_sets as pt_sets
pub use Rattle.pt_comparisons.specs.pt_sequences as pt_sequences
