pub mod EndLaws
pub mod ListingLemmas
pub mod ReportLemmas
pub mod RunLemmas
pub mod CountedLemmas
pub mod SummaryLemmas
pub mod AnswerLemmas
pub use Rattle.pt_run_script.proofs as pt_run_script
