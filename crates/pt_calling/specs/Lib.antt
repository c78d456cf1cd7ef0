pub mod Calling
pub mod Laws
pub use Rattle.pt_reraising.specs.pt_machine_state as pt_machine_state
pub use Rattle.pt_reraising.specs.pt_failing.pt_arising as pt_arising
pub use Rattle.pt_reraising.specs.pt_failing as pt_failing
pub use Rattle.pt_reraising.specs.pt_answering as pt_answering
pub use Rattle.pt_reraising.specs as pt_reraising
