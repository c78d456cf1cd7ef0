use Rattle.std.proofs.Common.{◌≡◌, ◌∙◌, Option, Some, None, refl, sym, ap, arith}
use Rattle.std.proofs.lemmas.Result.{IfOk-weaker}
use Rattle.pt_call_rows.proofs.MethodLemmas.{method_operated, method_misnamed}
use Rattle.pt_call_rows.proofs.calls.call_method.Goals as goal

pub returns-in_default-2-clause-row : goal.returns-in_default-2-clause-row
returns-in_default-2-clause-row c =
    method_misnamed c.args.blocks.now c.args.receiver c.args.args.now c.args.slots.now c.args.cells.now c.args.heap.now c.args.method c.in-Some.method _
    c.in-Some.is c.in_ok-operands.ensures c.in_default-2.is

pub returns-clause-row : goal.returns-clause-row
returns-clause-row c =
    IfOk-weaker c.operate_or_ask.result _ _
    (λ p done. method_operated c.args.blocks.now c.args.receiver c.args.args.now c.args.slots.now c.args.cells.now c.args.heap.now c.args.method c.in-Some.method _
    c.as_slice.result.now p c.operate_or_ask.new.slots c.operate_or_ask.new.cells c.operate_or_ask.new.heap c.in-Some.is c.in_ok-operands.ensures (c.in-Some-2.is ∙ ap (λ vs. Some vs) (sym c.as_slice.ensures)) done)
    c.operate_or_ask.ensures.row
