pub mod SlotLemmas
pub mod NewestLemmas
