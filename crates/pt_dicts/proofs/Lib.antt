pub mod ChainLemmas
pub mod KeyLemmas
pub mod SameLemmas
pub mod SetLemmas
