mod CallLemmas
mod ValueLemmas
mod MethodLemmas
mod RowLemmas
mod RoleLemmas
pub mod OperandLemmas
mod ExceptionLemmas
pub use Rattle.pt_block_calls.proofs as pt_block_calls
pub use Rattle.pt_block_calls.proofs.pt_operators as pt_operators
pub use Rattle.pt_block_calls.proofs.pt_function_rows as pt_function_rows
