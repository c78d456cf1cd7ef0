pub mod SessionLemmas
