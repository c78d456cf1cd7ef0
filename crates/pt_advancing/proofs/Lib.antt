pub mod Visible
pub mod Phases
pub mod SeenLines
pub mod Advances
pub use Rattle.pt_closing.proofs as pt_closing
