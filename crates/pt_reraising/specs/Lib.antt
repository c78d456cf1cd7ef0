pub mod Raising
pub mod Laws
pub use Rattle.pt_failing.specs.pt_arising.pt_replying.pt_turning.pt_telling.pt_transfers.pt_machine_state as pt_machine_state
pub use Rattle.pt_failing.specs as pt_failing
pub use Rattle.pt_failing.specs.pt_opening as pt_opening
pub use Rattle.pt_failing.specs.pt_answering as pt_answering
