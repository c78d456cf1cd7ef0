mod TakeLemmas
mod ChangeLemmas
mod IteratorLemmas
mod UnpackLemmas
