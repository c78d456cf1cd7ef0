pub mod JoinLemmas
pub mod PickLemmas
pub mod CountLemmas
pub mod ListLemmas
pub mod RefusalLemmas
pub mod ExactLemmas
