pub mod Laws
pub use Rattle.pt_making.specs.pt_turning.pt_telling.pt_transfers.pt_machine_state as pt_machine_state
pub use Rattle.pt_making.specs.pt_answering as pt_answering
pub use Rattle.pt_making.specs.pt_failing as pt_failing
pub use Rattle.pt_making.specs.pt_calling as pt_calling
pub use Rattle.pt_making.specs.pt_reraising as pt_reraising
pub use Rattle.pt_making.specs as pt_making
