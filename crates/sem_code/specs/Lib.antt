pub mod slots
pub mod silent_turns
pub mod comp_expr
pub mod comp
