use Rattle.std.proofs.Common.{◌∙◌, Some, sym, ap}
use Rattle.std.proofs.lemmas.Result.{IfOk-weaker}
use Rattle.pt_content.specs.pt_attrs.declared.look.Found.TheVariants as found
use Rattle.pt_container_rows.proofs.ChangeLemmas.{function_changes}
use Rattle.pt_container_rows.proofs.changes.change_or.Goals as goal

pub returns-in_ok-args-in-Some-Bound : goal.returns-in_ok-args-in-Some-Bound
returns-in_ok-args-in-Some-Bound c = IfOk-weaker c.call_function.result _ _
    (λ p done. function_changes c.args.name.now c.args.op c.args.receiver c.args.rest.now c.args.operands.now c.args.blocks.now c.args.cells.now
    c.args.heap.now c.in_ok-function.field-0 c.in_ok-function.ensures _ c.in_ok-args-in-Some-Bound.args p c.call_function.new.cells
    c.call_function.new.heap
    (c.in-Some-Bound.is ∙ (ap (λ k. Some k) c.in-Some-Bound.field-0-is ∙ ap (λ k. Some (found.Bound k)) (sym c.in-Some-Bound.function-is)))
    c.in_ok-args-in-Some-Bound.ensures (λ slots. done slots))
    c.call_function.ensures
