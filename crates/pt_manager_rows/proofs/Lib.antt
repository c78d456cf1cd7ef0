mod EnterLemmas
mod LeaveLemmas
