pub mod Rooms
pub mod Replies
pub mod Results
pub mod Calls
pub use Rattle.pt_reraising.proofs.pt_turning as pt_turning
pub use Rattle.pt_reraising.proofs.pt_arising.pt_replying as pt_replying
pub use Rattle.pt_reraising.proofs.pt_arising as pt_arising
pub use Rattle.pt_reraising.proofs.pt_failing as pt_failing
pub use Rattle.pt_reraising.proofs.pt_answering as pt_answering
pub use Rattle.pt_reraising.proofs as pt_reraising
