pub mod PlaceTable
pub mod PlacesUpTo
pub mod Innermost
