use Rattle.std.proofs.Common.{◌∙◌, ◌-◌, ap, slice_get}
use Rattle.pt_methods.proofs.NumberLemmas.{by_number}
use Rattle.pt_methods.proofs.names.of_method_number.Goals as goal

pub returns : goal.returns
returns c =
    by_number c.args.number c.method_at.result c.if-number-lt-FIRST_METHOD.false
    (c.method_at.ensures ∙ ap (λ ms. slice_get ms (c.args.number - 28)) c.as_slice.ensures)
