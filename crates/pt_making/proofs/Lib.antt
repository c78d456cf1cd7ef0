pub mod Bases
pub mod Makes
pub use Rattle.pt_giving.proofs.pt_turning.pt_telling as pt_telling
pub use Rattle.pt_giving.proofs.pt_answering as pt_answering
pub use Rattle.pt_giving.proofs.pt_failing as pt_failing
pub use Rattle.pt_giving.proofs.pt_calling as pt_calling
pub use Rattle.pt_giving.proofs.pt_reraising as pt_reraising
pub use Rattle.pt_giving.proofs as pt_giving
