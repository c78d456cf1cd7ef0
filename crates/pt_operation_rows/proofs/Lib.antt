mod BranchLemmas
mod GatherLemmas
mod RowLemmas
mod SpecialLemmas
