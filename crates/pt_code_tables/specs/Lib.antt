pub mod Tables
pub use Rattle.pt_builtins.specs as pt_builtins
pub use Rattle.pt_machine_state.specs as pt_machine_state
