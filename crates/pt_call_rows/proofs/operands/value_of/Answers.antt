use Rattle.std.proofs.Common.{◌∙◌, sym}
use Rattle.pt_bind.proofs.BindingLemmas.{value_of-next}
use Rattle.pt_call_rows.proofs.operands.value_of.Goals as goal

pub loop-binding-preserved : goal.loop-binding-preserved
loop-binding-preserved c =
    c.loop-binding.invariant
    ∙ value_of-next c.args.name.now c.args.named.now c.loop-binding.binding-index c.binding-item.result c.loop-binding-test.true c.binding-item.is (sym c.if-is.ensures.value)
