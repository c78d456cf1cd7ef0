pub mod Names
pub use Rattle.pt_moves.specs as pt_moves
pub use Rattle.pt_code_facts.specs as pt_code_facts
pub use Rattle.pt_builtins.specs as pt_builtins
