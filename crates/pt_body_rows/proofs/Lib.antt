pub mod OwnLemmas
pub mod BodyLemmas
pub use Rattle.pt_name_rows.proofs as pt_name_rows
