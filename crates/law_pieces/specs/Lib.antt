pub mod piece_kinds
pub mod origin_parts
pub mod first_starts
pub mod forward_pieces
pub mod held_exits
pub mod piece_acts
pub mod script_code
