mod Lists
mod ChainLemmas
mod StretchLemmas
mod NumberLemmas
mod Soonest
mod First
