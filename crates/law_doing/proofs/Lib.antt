pub mod Successors
pub mod Acts
pub use Rattle.pt_making.proofs.pt_telling as pt_telling
pub use Rattle.pt_making.proofs.pt_answering as pt_answering
pub use Rattle.pt_making.proofs.pt_failing as pt_failing
pub use Rattle.pt_making.proofs.pt_calling as pt_calling
pub use Rattle.pt_making.proofs.pt_reraising as pt_reraising
pub use Rattle.pt_making.proofs as pt_making
