pub mod ChangeLemmas
pub use Rattle.pt_attrs.proofs as pt_attrs
