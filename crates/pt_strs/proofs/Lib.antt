pub mod CharLemmas
pub mod CutLemmas
pub mod AnswerLemmas
pub mod JoinLemmas
pub mod PieceLemmas
pub mod StripLemmas
pub mod SliceLemmas
