pub use Rattle.pt_machine_state.specs as pt_machine_state
