pub mod DepthLemmas
pub mod Steps
pub mod SilentLemmas
pub mod ExitLemmas
pub mod LostLemmas
