pub mod Sizes
pub mod Laws
pub mod Objects
pub mod PlaceTable
pub mod PlacesUpTo
pub mod Refusals
pub mod Views
