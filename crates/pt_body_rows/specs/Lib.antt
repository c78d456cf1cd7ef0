pub mod Bodies
pub use Rattle.pt_name_rows.specs as pt_name_rows
