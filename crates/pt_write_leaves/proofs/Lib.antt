pub mod DefaultLemmas
pub mod LoopLemmas
pub use Rattle.pt_expr_forms.proofs as pt_expr_forms
