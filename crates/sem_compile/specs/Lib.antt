pub mod emitter
pub mod stm_pieces
pub mod compile
