pub mod Behind
pub mod OtherProgress
pub mod Applies
pub mod AsksTold
pub mod Known
pub mod Acting
pub use Rattle.law_doing.proofs as law_doing
