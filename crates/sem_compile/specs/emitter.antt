pub mod Ops
pub mod ExpPiece
pub mod Laws
