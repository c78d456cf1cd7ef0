pub mod CauseLemmas
pub mod RaiseLemmas
pub mod RowLemmas
