pub mod heap_rows
pub mod unsupported_rows
pub mod variables
pub use Rattle.sem_code_machine.specs as sem_code_machine
pub use Rattle.pt_host.specs as pt_host
