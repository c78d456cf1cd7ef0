mod AttributeLemmas
mod ImportLemmas
