pub mod Rules
pub use Rattle.pt_stm_forms.proofs as pt_stm_forms
