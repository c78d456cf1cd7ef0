pub mod Needed
pub mod StmPiece
pub mod Names
pub mod Laws
