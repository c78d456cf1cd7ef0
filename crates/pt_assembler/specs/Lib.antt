pub mod Tables
pub mod Piece
pub mod PieceAt
pub mod Layout
pub mod Laws
