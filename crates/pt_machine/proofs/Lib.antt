pub mod RowLemmas
pub mod NameRows
pub mod BodyRows
pub mod CallRows
pub mod FastRows
pub mod OwnNames
pub mod StepLemmas
pub mod SilentLemmas
pub use Rattle.law_frames.proofs as law_frames
