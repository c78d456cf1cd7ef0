pub mod ExitLemmas
