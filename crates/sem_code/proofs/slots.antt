pub mod StuckLaw
pub mod MarkLaw
