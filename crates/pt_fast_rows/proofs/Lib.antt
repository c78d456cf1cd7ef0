mod TakeLemmas
mod ValueLemmas
mod IntegerLemmas
mod BranchLemmas
mod NameLemmas
