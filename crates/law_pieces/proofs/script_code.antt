pub mod SamePieces
pub mod Begun
pub mod Blocks
