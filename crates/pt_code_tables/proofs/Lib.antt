pub use Rattle.pt_machine_state.proofs as pt_machine_state
