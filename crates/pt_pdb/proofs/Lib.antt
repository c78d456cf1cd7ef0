pub mod LineLemmas
pub mod PromptLemmas
