pub mod RangeLemmas
pub mod UnpackLemmas
