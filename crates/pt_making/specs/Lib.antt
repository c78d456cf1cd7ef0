pub mod Making
pub mod Laws
pub use Rattle.pt_giving.specs.pt_host as pt_host
pub use Rattle.pt_giving.specs.pt_purposes as pt_purposes
pub use Rattle.pt_giving.specs.pt_turning as pt_turning
pub use Rattle.pt_giving.specs.pt_answering as pt_answering
pub use Rattle.pt_giving.specs.pt_failing as pt_failing
pub use Rattle.pt_giving.specs.pt_calling as pt_calling
pub use Rattle.pt_giving.specs.pt_reraising as pt_reraising
pub use Rattle.pt_giving.specs as pt_giving
