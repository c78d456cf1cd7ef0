pub mod Behind
pub mod BlockKindLemmas
pub mod NameLemmas
pub mod NameSetLemmas
pub mod ResolveLemmas
pub mod SeenLemmas
pub mod TableLemmas
