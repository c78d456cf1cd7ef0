use Rattle.std.proofs.Common.{◌∙◌, Some, ap}
use Rattle.std.proofs.lemmas.Result.{IfOk-weaker}
use Rattle.pt_call_rows.specs.pt_class_rows.Calls.{running}
use Rattle.pt_operation_rows.proofs.SpecialLemmas.{function_called}
use Rattle.pt_operation_rows.proofs.special.special_or.Goals as goal

pub returns-in_ok-args-in-Some-Bound-clause-row : goal.returns-in_ok-args-in-Some-Bound-clause-row
returns-in_ok-args-in-Some-Bound-clause-row c = IfOk-weaker c.call_function.result _ _
    (λ p done. function_called c.args.name.now c.args.op c.args.receiver c.args.rest.now c.args.operands.now c.args.blocks.now
    (running c.args.facts.now c.args.locals.now c.args.numbers.now c.args.own.now) c.args.slots.now c.args.cells.now c.args.heap.now
    c.in_ok-function.field-0 c.in_ok-function.ensures c.in-Some-Bound.function c.in_ok-args-in-Some-Bound.args p c.call_function.new.cells
    c.call_function.new.heap (c.in-Some-Bound.is ∙ ap (λ k. Some k) c.in-Some-Bound.field-0-is) c.in_ok-args-in-Some-Bound.ensures (done c.args.slots.now))
    c.call_function.ensures
