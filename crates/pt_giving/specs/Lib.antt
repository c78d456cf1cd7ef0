pub mod Giving
pub mod Laws
pub use Rattle.pt_calling.specs.pt_arising.pt_opening.pt_host as pt_host
pub use Rattle.pt_calling.specs.pt_arising.pt_opening.pt_purposes as pt_purposes
pub use Rattle.pt_calling.specs.pt_arising.pt_replying.pt_turning as pt_turning
pub use Rattle.pt_calling.specs.pt_failing as pt_failing
pub use Rattle.pt_calling.specs.pt_answering as pt_answering
pub use Rattle.pt_calling.specs as pt_calling
pub use Rattle.pt_calling.specs.pt_reraising as pt_reraising
