pub mod AnswersDone
pub mod Taken
pub mod Gives
pub use Rattle.pt_calling.proofs.pt_turning.pt_telling.pt_transfers.pt_machine_state as pt_machine_state
pub use Rattle.pt_calling.proofs.pt_turning as pt_turning
pub use Rattle.pt_calling.proofs.pt_failing as pt_failing
pub use Rattle.pt_calling.proofs.pt_answering as pt_answering
pub use Rattle.pt_calling.proofs as pt_calling
pub use Rattle.pt_calling.proofs.pt_reraising as pt_reraising
