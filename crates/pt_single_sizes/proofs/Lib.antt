pub mod OwnWays
pub mod Spreading
pub mod Going
pub mod Seeing
