pub mod SizeLemmas
pub mod ObjectRuns
pub mod PlaceTable
mod PlaceLemmas
pub mod RefusalLemmas
pub mod ViewLemmas
