pub mod LineLemmas
pub mod ChainLemmas
pub mod SummaryLemmas
