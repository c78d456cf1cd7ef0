pub mod ArisenLemmas
pub mod CallerLemmas
pub mod ClassLemmas
pub mod MovedLemmas
pub mod OperatedLemmas
pub mod RowLemmas
pub mod FormatLemmas
