pub mod Answers
pub mod Bounds
pub mod Picked
pub mod Slices
pub mod Ends
pub mod Lists
pub mod Methods
