pub mod Operates
pub use Rattle.pt_moves.specs as pt_moves
pub use Rattle.pt_prims.specs as pt_prims
