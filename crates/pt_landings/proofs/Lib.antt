mod TakingLemmas
