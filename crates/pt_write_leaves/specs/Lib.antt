pub use Rattle.pt_expr_forms.specs as pt_expr_forms
