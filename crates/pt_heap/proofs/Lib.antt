pub mod HoleLemmas
pub mod SoundLemmas
