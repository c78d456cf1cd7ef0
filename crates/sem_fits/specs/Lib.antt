pub mod fits
pub mod comp_jumps
pub mod jump_rows
