pub mod BitLemmas
pub mod DivisionLemmas
pub mod LawLemmas
pub mod PowerLemmas
pub mod RangeLemmas
pub mod ShiftLemmas
